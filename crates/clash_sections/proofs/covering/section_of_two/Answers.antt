use Rattle.std.proofs.Common.{◌≡◌, length, [], ◌∷◌}
use Rattle.std.proofs.lemmas.Result.{IfOk-weaker}
use Rattle.clash_sections.specs.Sections.{Forbids}
use Rattle.clash_sections.specs.Tracks.{IsFit, IsOfTracks}
use Rattle.clash_sections.proofs.Enough.{two_on, two-put, two-fit, two-forbids}
use Rattle.clash_sections.proofs.covering.section_of_two.Goals as goal

pub returns-clause-fit : goal.returns-clause-fit
returns-clause-fit c =
    let track : c.put-2.new.self ≡ two_on (length c.args.clashes.now) c.args.one c.args.other =
    two-put (length c.args.clashes.now) c.len.result c.args.one c.args.other c.in_ok-track.track c.put.new.self c.put-2.new.self
    c.len.ensures c.in_ok-track.ensures c.put.ensures c.put-2.ensures in
    IfOk-weaker c.section_of.result (IsOfTracks c.len-2.result (c.put-2.new.self ∷ [])) (IsFit c.args.clashes.now)
    (λ s is. two-fit c.args.clashes.now c.args.one c.args.other c.len-2.result c.put-2.new.self s
    c.requires.orderly c.requires.clash c.len-2.ensures track is)
    c.section_of.ensures

pub returns-clause-forbids : goal.returns-clause-forbids
returns-clause-forbids c =
    let track : c.put-2.new.self ≡ two_on (length c.args.clashes.now) c.args.one c.args.other =
    two-put (length c.args.clashes.now) c.len.result c.args.one c.args.other c.in_ok-track.track c.put.new.self c.put-2.new.self
    c.len.ensures c.in_ok-track.ensures c.put.ensures c.put-2.ensures in
    IfOk-weaker c.section_of.result (IsOfTracks c.len-2.result (c.put-2.new.self ∷ [])) (Forbids c.args.one c.args.other)
    (λ s is. two-forbids c.args.clashes.now c.args.one c.args.other c.len-2.result c.put-2.new.self s
    c.requires.within.0 c.requires.within.1 c.len-2.ensures track is)
    c.section_of.ensures
