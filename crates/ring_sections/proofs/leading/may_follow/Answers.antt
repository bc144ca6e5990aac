use Rattle.std.proofs.Common.{◌≡◌, ◌∙◌, [], ◌∷◌, ◌++◌, false, arith, rules, sym, inl, inr, subst}
use Rattle.std.specs.Int.{bit_at}
use Rattle.std.proofs.lemmas.Result.{IfOk-weaker}
use Rattle.ring_sections.specs.declared.leading.Reach.{Reach}
use Rattle.ring_sections.specs.Search.{fits, rings_from}
use Rattle.ring_sections.specs.Leading.{IsLost}
use Rattle.ring_sections.proofs.LeadingBack.{none_follow, none_follow_unwanted}
use Rattle.ring_sections.proofs.Pruned.{none_unfit}
use Rattle.ring_sections.proofs.TrainSets.{has_only, none_has}
use Rattle.ring_sections.proofs.leading.may_follow.Goals as goal

pub returns-in_default-clause-answer : goal.returns-in_default-clause-answer
returns-in_default-clause-answer c = λ _. none_follow_unwanted c.args.chart.now.missions.now c.args.way.now c.args.left c.args.next (sym c.next_point_of.ensures ∙ c.in_default.is)

pub returns-then-not-fits-clause-answer : goal.returns-then-not-fits-clause-answer
returns-then-not-fits-clause-answer c = λ _.
    let unfit : fits c.args.way.now c.args.next ≡ false = search rules in
    none_unfit c.args.chart.now.missions.now c.args.way.now c.requires.some c.args.next c.args.left unfit

pub returns-clause-answer : goal.returns-clause-answer
returns-clause-answer c =
    let M = c.args.chart.now.missions.now in
    let way = c.args.way.now in
    let from : Reach = record { point = c.in-Some.point; left = c.args.left; used = c.with-used.result } in
    IfOk-weaker c.may_lead.result (λ may. may ≡ false → IsLost M way c.args.shut from) (λ may. may ≡ false → rings_from M (way ++ c.args.next ∷ []) c.args.left ≡ [])
    (λ may lost no. none_follow M way c.args.left c.args.next c.args.shut from c.requires.some c.requires.stands (sym c.next_point_of.ensures ∙ c.in-Some.is) (omega arith)
    (λ i has. elim (has_only c.none.result c.args.next.0 i (subst (λ b. bit_at b i ≡ 1) c.with-used.ensures has)) [
      | inl old ↦ absurd (none_has c.none.result i c.none.ensures old)
      | inr same ↦ same
    ]) (lost no))
    c.may_lead.ensures.answer
