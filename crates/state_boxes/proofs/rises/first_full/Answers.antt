use Rattle.std.proofs.Common.{List, ◌≡◌, ◌∙◌, ap, arith}
use Rattle.rail_model.specs.Certificate.{Range, range}
use Rattle.state_boxes.proofs.From.{more_from}
use Rattle.state_boxes.proofs.Tight.{known_row, none_full}
use Rattle.state_boxes.proofs.rises.first_full.Goals as goal

pub at-here-requires-clause-place : goal.at-here-requires-clause-place
at-here-requires-clause-place c =
    let i = c.args.train in
    let end : c.span-span.result.hi ≡ (range c.args.sums.now.ranges i).hi = ap (λ (r : Range). r.hi) (c.span-span.ensures ∙ ap (λ (b : List Range). range b i) c.ranges-ranges.ensures) in
    omega (arith, end, c.requires.unfinished, (c.requires.rises.1 i c.requires.train).0)

pub tight_number-requires-clause-known : goal.tight_number-requires-clause-known
tight_number-requires-clause-known c =
    let i = c.args.train in
    let end : c.span-span.result.hi ≡ (range c.args.sums.now.ranges i).hi = ap (λ (r : Range). r.hi) (c.span-span.ensures ∙ ap (λ (b : List Range). range b i) c.ranges-ranges.ensures) in
    (known_row c.args.table.now c.args.rises.now i c.loop-place.place c.at-here.result.now c.requires.rises c.requires.train (omega (arith, end, c.requires.unfinished)) c.at-here.ensures).1

pub loop-place-preserved : goal.loop-place-preserved
loop-place-preserved c =
    let i = c.args.train in
    let end : c.span-span.result.hi ≡ (range c.args.sums.now.ranges i).hi = ap (λ (r : Range). r.hi) (c.span-span.ensures ∙ ap (λ (b : List Range). range b i) c.ranges-ranges.ensures) in
    let row = (known_row c.args.table.now c.args.rises.now i c.loop-place.place c.at-here.result.now c.requires.rises c.requires.train (omega (arith, end, c.requires.unfinished)) c.at-here.ensures).0 in
    more_from _ _ _ c.loop-place.invariant (none_full c.args.table.now c.args.sums.now.ranges i c.loop-place.place _ row c.in_default.ensures)

pub returns-in_default : goal.returns-in_default
returns-in_default c =
    let i = c.args.train in
    let end : c.span-span.result.hi ≡ (range c.args.sums.now.ranges i).hi = ap (λ (r : Range). r.hi) (c.span-span.ensures ∙ ap (λ (b : List Range). range b i) c.ranges-ranges.ensures) in
    let row = (known_row c.args.table.now c.args.rises.now i c.loop-place.place c.at-here.result.now c.requires.rises c.requires.train (omega (arith, end, c.requires.unfinished)) c.at-here.ensures).0 in
    λ s h. more_from _ _ _ c.loop-place.invariant (none_full c.args.table.now c.args.sums.now.ranges i c.loop-place.place _ row c.in_default.ensures)
    h.1.0 h.1.1.0 (omega (arith, h.1.1, end)) s (h.0, h.1.1, h.1.2, h.1.3)
