use Rattle.std.proofs.Common.{List, ◌≡◌, sym, ◌∙◌, ap, subst, arith}
use Rattle.std.specs.Prelude.{find, option_map}
use Rattle.rail_model.specs.Move.{IsFirstOrNone}
use Rattle.rail_model.specs.Certificate.{Range, range, MayBeFull}
use Rattle.state_boxes.specs.declared.rises.Rise.{Rise}
use Rattle.state_boxes.specs.Sums.{is_tight}
use Rattle.state_boxes.proofs.Tight.{known_row, tight_first}
use Rattle.state_boxes.proofs.rises.first_without_room_from_one.Goals as goal

pub at-requires-clause-place : goal.at-requires-clause-place
at-requires-clause-place c =
    let i = c.args.train in
    let B = c.args.sums.now.ranges in
    let place : c.lo-place.result ≡ (range B i).lo = c.lo-place.ensures ∙ ap (λ (r : Range). r.lo) (c.span.ensures ∙ ap (λ (b : List Range). range b i) c.ranges-ranges.ensures) in
    omega (arith, place, c.requires.single, c.requires.unfinished, (c.requires.rises.1 i c.requires.train).0)

pub first_tight-requires-clause-known : goal.first_tight-requires-clause-known
first_tight-requires-clause-known c =
    let i = c.args.train in
    let B = c.args.sums.now.ranges in
    let place : c.lo-place.result ≡ (range B i).lo = c.lo-place.ensures ∙ ap (λ (r : Range). r.lo) (c.span.ensures ∙ ap (λ (b : List Range). range b i) c.ranges-ranges.ensures) in
    (known_row c.args.table.now c.args.rises.now i c.lo-place.result c.at.result.now c.requires.rises c.requires.train (omega (arith, place, c.requires.single, c.requires.unfinished)) c.at.ensures).1

pub returns : goal.returns
returns c =
    let T = c.args.table.now in
    let B = c.args.sums.now.ranges in
    let i = c.args.train in
    let place : c.lo-place.result ≡ (range B i).lo = c.lo-place.ensures ∙ ap (λ (r : Range). r.lo) (c.span.ensures ∙ ap (λ (b : List Range). range b i) c.ranges-ranges.ensures) in
    let row = (known_row T c.args.rises.now i c.lo-place.result c.at.result.now c.requires.rises c.requires.train (omega (arith, place, c.requires.single, c.requires.unfinished)) c.at.ensures).0 in
    subst (λ o. IsFirstOrNone (MayBeFull T B i) o)
    (sym (c.first_tight.ensures ∙ ap (λ (xs : List Rise). option_map (λ r. r.section) (find (is_tight T B i) xs)) row)) (tight_first T B i c.lo-place.result place c.requires.single)
