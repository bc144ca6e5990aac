use Rattle.std.proofs.Common.{◌≡◌, ◌⊎◌, ℕ, arith, ◌∙◌, sym, inl, subst}
use Rattle.std.specs.Int.{bit_at}
use Rattle.ring_sections.specs.declared.train_set.TrainSet.{TrainSet}
use Rattle.ring_sections.specs.Leading.{HasTrain}
use Rattle.ring_sections.proofs.TrainSets.{has_only}
use Rattle.ring_sections.proofs.leading.onward.Goals as goal
use Rattle.ring_sections.proofs.leading.onward.Goals.{then-are_many, else-are_many}

pub returns-clause-behind : goal.returns-clause-behind
returns-clause-behind c = record {
  point = sym c.next_point_of.ensures ∙ c.in_ok-point.was;
  left = omega arith;
  used = elim c.if-are_many.branch [
    | then-are_many w ↦ subst (λ (s : TrainSet). (i : ℕ) → HasTrain s i → HasTrain c.args.from.used i ⊎ (i ≡ c.args.next.0)) (sym w.used-is) (λ i has. inl has)
    | else-are_many w ↦ subst (λ (s : TrainSet). (i : ℕ) → HasTrain s i → HasTrain c.args.from.used i ⊎ (i ≡ c.args.next.0)) (sym w.used-is) (λ i has. has_only c.args.from.used c.args.next.0 i (subst (λ b. bit_at b i ≡ 1) w.with-used.ensures has))
  ];
}
