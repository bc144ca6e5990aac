use Rattle.std.proofs.Common.{arith, below_more, inl, inr}
use Rattle.std.proofs.lemmas.Bool.{cases_lt}
use Rattle.order_sections.proofs.whole.is_whole.Goals as goal

pub loop-b-preserved : goal.loop-b-preserved
loop-b-preserved c = below_more _ _ c.loop-b.invariant (c.column_is_whole.ensures c.if-not-column_is_whole.false)

pub returns-else-not-column_is_whole : goal.returns-else-not-column_is_whole
returns-else-not-column_is_whole c = λ done. record {
  filled = λ a b a_in b_in far. elim (cases_lt a c.first_place-least.result) [
    | inl early ↦ absurd (c.first_place-least.ensures far.place (omega (arith, far.comes, early)) (omega (arith, far.comes, a_in, c.last_of.ensures.last))
        far.other (omega (arith, far.in_range, c.last_of-2.ensures.last)) far.together)
    | inr least ↦ below_more _ _ c.loop-b.invariant (c.column_is_whole.ensures c.if-not-column_is_whole.false) b (omega arith) a least a_in far.never
  ];
}
