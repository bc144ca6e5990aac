use Rattle.std.proofs.Common.{◌≡◌, ◌⊎◌, ◌∙◌, length, subst, arith, inl, inr}
use Rattle.std.specs.Prelude.{vec_len}
use Rattle.std.proofs.lemmas.Result.{IfOk-weaker, IfErr-weaker}
use Rattle.rail_model.specs.Table.{Table}
use Rattle.rail_model.specs.Certificate.{Tree}
use Rattle.rail_model.specs.State.{Legal}
use Rattle.document_json.proofs.Offered.{offer_count}
use Rattle.document_json.proofs.Refusals.{refused-so}
use Rattle.ats_answers.specs.Repairing.{IsRepairedAs, RepairsNone, IsRefusedStart}
use Rattle.ats_answers.specs.Starting.{IsBadStart}
use Rattle.ats_answers.specs.declared.failure.Failure.TheVariants.{Memory as NoMemory}
use Rattle.ats_answers.proofs.Repaired.{first_part, repaired_more, refused_start}
use Rattle.ats_answers.proofs.repairing.repair_next.Goals as goal

pub overflow_cast-number : goal.overflow_cast-number
overflow_cast-number c =
    let counted : vec_len c.args.parts.now ≡ length c.args.parts.now.items = c.args.parts.now.ok.0 in
    omega (arith, c.len-number.ensures, counted, c.requires.number, offer_count c.args.doc.now, c.requires.formed.tables.few)

pub returns-in_err-repair_one-clause-unrepaired : goal.returns-in_err-repair_one-clause-unrepaired
returns-in_err-repair_one-clause-unrepaired c =
    let n = length c.args.parts.now.items in
    let T = c.args.table in
    let budget = c.args.budget.nodes in
    let rounds = c.args.rounds in
    let e = c.in_err-repair_one.field-0.0 in
    let counted : vec_len c.args.parts.now ≡ n = c.args.parts.now.ok.0 in
    refused-so (λ e. (e ≡ NoMemory) ⊎ RepairsNone T n budget rounds e ⊎ ((n ≡ 0) × IsRefusedStart T c.args.doc.now.start budget rounds e))
    c.from_residual.result e c.from_residual.ensures.1
    (elim c.in_err-repair_one.ensures.none [
      | inl memory ↦ inl memory
      | inr none ↦ inr (inl (subst (λ k. RepairsNone T k budget rounds e) (c.len-number.ensures ∙ counted) none))
    ])

pub returns-then-number-gt0-clause-repaired : goal.returns-then-number-gt0-clause-repaired
returns-then-number-gt0-clause-repaired c =
    let n = length c.args.parts.now.items in
    let p = c.in_ok-repair_one.field-0 in
    let counted : vec_len c.args.parts.now ≡ n = c.args.parts.now.ok.0 in
    let later : n ≡ 0 → Legal p.0 c.args.doc.now.start = λ first. absurd (omega (arith, first, c.if-number-gt0.true, c.len-number.ensures, counted)) in
    repaired_more c.args.doc.now c.args.budget.nodes c.args.rounds n c.args.parts.now.items c.push.new.self.items p c.requires.earlier c.in_ok-push.ensures.items
    (subst (λ (T : Table). IsRepairedAs T c.args.budget.nodes c.args.rounds p.0 p.1) c.requires.table c.in_ok-repair_one.ensures.repaired) later

pub returns-clause-repaired : goal.returns-clause-repaired
returns-clause-repaired c =
    let D = c.args.doc.now in
    let n = length c.args.parts.now.items in
    let p = c.in_ok-repair_one.field-0 in
    let counted : vec_len c.args.parts.now ≡ n = c.args.parts.now.ok.0 in
    let first : n ≡ 0 = omega (arith, c.if-number-gt0.false, c.len-number.ensures, counted) in
    let same = first_part c.args.parts.now.items c.push.new.self.items p c.index.result.now first c.in_ok-push.ensures.items c.index.ensures in
    IfOk-weaker c.check_start.result _ _
    (λ done legal.
    repaired_more D c.args.budget.nodes c.args.rounds n c.args.parts.now.items c.push.new.self.items p c.requires.earlier c.in_ok-push.ensures.items
    (subst (λ (T : Table). IsRepairedAs T c.args.budget.nodes c.args.rounds p.0 p.1) c.requires.table c.in_ok-repair_one.ensures.repaired)
    (λ _. subst (λ (q : Table × Tree). Legal q.0 D.start) same (subst (Legal c.index.result.now.0) c.start.ensures.start legal)))
    c.check_start.ensures.legal

pub returns-clause-unrepaired : goal.returns-clause-unrepaired
returns-clause-unrepaired c =
    let D = c.args.doc.now in
    let p = c.in_ok-repair_one.field-0 in
    let counted : vec_len c.args.parts.now ≡ length c.args.parts.now.items = c.args.parts.now.ok.0 in
    let first : length c.args.parts.now.items ≡ 0 = omega (arith, c.if-number-gt0.false, c.len-number.ensures, counted) in
    let same = first_part c.args.parts.now.items c.push.new.self.items p c.index.result.now first c.in_ok-push.ensures.items c.index.ensures in
    IfErr-weaker c.check_start.result _ _
    (λ e bad.
    inr (inr (
      first,
      refused_start c.args.table p.0 D.start c.args.budget.nodes c.args.rounds p.1 e c.in_ok-repair_one.ensures.repaired c.in_ok-repair_one.ensures.dooms
          (subst (λ (q : Table × Tree). IsBadStart q.0 D.start e) same (subst (λ s. IsBadStart c.index.result.now.0 s e) c.start.ensures.start bad)),
    )))
    c.check_start.ensures.bad
