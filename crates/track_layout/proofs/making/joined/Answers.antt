use Rattle.std.proofs.Common.{◌≡◌, ◌∙◌, ap, inr, sym, arith, map, take, length, Ok}
use Rattle.std.proofs.lemmas.Grind.{common_steps}
use Rattle.rail_model.specs.Turns.{unless}
use Rattle.track_layout.specs.Making.{link_value}
use Rattle.track_layout.specs.Seen.{links_seen, link_seen}
use Rattle.track_layout.proofs.Known.{unknown_at, all_known}
use Rattle.track_layout.proofs.making.joined.Goals as goal

pub returns-in_default : goal.returns-in_default
returns-in_default c =
    let numbers = c.args.numbers.now in
    let links = c.args.links.now in
    let value = map (link_value numbers) (links_seen links) in
    let link = c.index-links-index.result in
    let refused = unknown_at numbers links c.loop-index.index link (link_value numbers (link_seen link)) c.loop-index-test.true c.index-links-index.is c.in_default.ensures c.loop-index.invariant.1 in
    inr (ap (λ r. unless r value) refused)

pub returns : goal.returns
returns c =
    let numbers = c.args.numbers.now in
    let links = c.args.links.now in
    let value = map (link_value numbers) (links_seen links) in
    let all : c.loop-index.index ≡ length links = omega arith in
    let whole : take c.loop-index.index links ≡ links = grind (arith, common_steps) in
    let taken = all_known numbers links (λ k d lt. c.loop-index.invariant.1 k d (omega arith)) in
    ap (λ r. unless r value) taken ∙ ap Ok (sym (c.loop-index.invariant.0 ∙ ap (λ ls. map (link_value numbers) (links_seen ls)) whole))
