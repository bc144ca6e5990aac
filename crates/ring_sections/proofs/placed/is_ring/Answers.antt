use Rattle.std.proofs.Common.{◌-◌, arith, inl, inr, subst, sym, refl, rules, ℕ, ◌<◌, ◌≤◌, List, length}
use Rattle.std.proofs.lemmas.Bool.{cases_eq}
use Rattle.ring_sections.specs.Search.{IsPlaced, IsTrainPlace}
use Rattle.std.specs.Prelude.{All}
use Rattle.rail_model.specs.Table.{Mission}
use Rattle.ring_sections.specs.Ring.{Pair, IsRing}
use Rattle.ring_sections.proofs.placed.is_ring.Goals as goal

placed_ring : (M : List Mission) (r : List Pair) → 2 ≤ length r → All (IsTrainPlace M) r → ((k : ℕ) → k < length r → IsPlaced M r k) → IsRing M r
placed_ring M r several valid placed = record {
  several = several;
  train = λ k l. (valid k (0, 0) l).0;
  unfinished = λ k l. (valid k (0, 0) l).1;
  one_each = λ j k before l. ((placed k l).apart j before).0;
  apart = λ j k q before l. ((placed k l).apart j before).1 q;
  waits = λ k l. (placed k l).waits;
  least_first = λ k later l. (placed k l).least_first later;
}

pub loop-index-preserved : goal.loop-index-preserved
loop-index-preserved c =
    let here : IsPlaced c.args.missions.now c.args.way.now (c.loop-index.index - 1) = search rules in
    λ k from l. elim (cases_eq k (c.loop-index.index - 1)) [
      | inl same ↦ subst (IsPlaced c.args.missions.now c.args.way.now) (sym same) here
      | inr other ↦ c.loop-index.invariant k (omega arith) l
    ]

pub returns : goal.returns
returns c = (
  (λ _. placed_ring c.args.missions.now c.args.way.now (omega arith) c.requires (λ k l. c.loop-index.invariant k (omega arith) l)),
  (λ _. refl),
)
