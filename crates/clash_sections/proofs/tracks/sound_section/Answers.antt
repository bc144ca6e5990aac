use Rattle.std.proofs.Common.{◌≡◌, ◌≤◌, ◌==◌, false, length, arith, subst, sym}
use Rattle.std.proofs.lemmas.Bool.Decides.{nat_tests}
use Rattle.clash_sections.specs.Tracks.{IsOfTracks}
use Rattle.clash_sections.proofs.Sound.{tracks-fit}
use Rattle.clash_sections.proofs.tracks.sound_section.Goals as goal

pub returns : goal.returns
returns c =
    let none : (length c.args.tracks.now == 0) ≡ false = sym c.if-is_empty.ensures in
    let some : 1 ≤ length c.args.tracks.now = grind (arith, nat_tests) in
    tracks-fit c.args.clashes.now c.args.tracks.now c.in_ok-section_of.field-0
    (c.are_tracks.ensures c.if-not-are_tracks.false) some c.if-tracks-gt4.false
    (subst (λ n. IsOfTracks n c.args.tracks.now c.in_ok-section_of.field-0) c.len.ensures c.in_ok-section_of.ensures)
