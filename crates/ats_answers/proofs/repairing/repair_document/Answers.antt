use Rattle.std.proofs.Common.{◌≡◌, ◌⊎◌, ◌<◌, List, [], ◌∷◌, ◌++◌, ◌+◌, length, sym, ◌∙◌, ap, subst, arith, length-append}
use Rattle.std.specs.Vec.Iter.{into_iter_items}
use Rattle.std.proofs.lemmas.Grind.{common_steps}
use Rattle.rail_model.specs.Table.{Table}
use Rattle.rail_model.specs.Certificate.{Tree}
use Rattle.document_json.specs.Doc.{table_at}
use Rattle.document_json.specs.Keeps.{IsTaken}
use Rattle.document_json.specs.Replaced.{replaced}
use Rattle.document_json.proofs.Refusals.{refused-so}
use Rattle.ats_answers.specs.Making.{tables_in}
use Rattle.ats_answers.specs.Repairing.{AreRepaired, RepairsNone, IsRefusedStart, FailsToRepair}
use Rattle.ats_answers.specs.declared.failure.Failure.TheVariants.{Memory as NoMemory}
use Rattle.ats_answers.proofs.AcceptedText.{on_both}
use Rattle.ats_answers.proofs.Made.{table_count, doc_behind, doc_table_behind}
use Rattle.ats_answers.proofs.Repaired.{failed_here, repaired_taken, repaired_is}
use Rattle.ats_answers.proofs.repairing.repair_document.Goals as goal

pub loop-table-preserved : goal.loop-table-preserved
loop-table-preserved c =
    let D = c.args.doc.now in
    let done = c.loop-table.yielded in
    let rest = into_iter_items c.next.new.self in
    let T = c.in-Some.table in
    let whole : tables_in D ≡ done ++ T ∷ rest = grind (arith, common_steps, c.in-Some.ensures.steps) in
    let size : length (done ++ T ∷ []) ≡ length done + 1 = length-append done (T ∷ []) in (
      tt,
      tt,
      grind (arith, common_steps, whole),
      subst (λ n. AreRepaired D c.args.budget.nodes c.args.rounds n c.repair_next.new.parts.items)
          (ap (λ n. n + 1) c.loop-table.invariant.3.one_each ∙ sym size) c.in_ok-repair_next.ensures.repaired,
    )

pub repair_next-requires-clause-number : goal.repair_next-requires-clause-number
repair_next-requires-clause-number c =
    let D = c.args.doc.now in
    let done = c.loop-table.yielded in
    let rest = into_iter_items c.next.new.self in
    let whole : tables_in D ≡ done ++ c.in-Some.table ∷ rest = grind (arith, common_steps, c.in-Some.ensures.steps) in
    omega (arith, c.loop-table.invariant.3.one_each, doc_behind D done rest c.in-Some.table whole)

pub repair_next-requires-clause-table : goal.repair_next-requires-clause-table
repair_next-requires-clause-table c =
    let D = c.args.doc.now in
    let done = c.loop-table.yielded in
    let rest = into_iter_items c.next.new.self in
    let whole : tables_in D ≡ done ++ c.in-Some.table ∷ rest = grind (arith, common_steps, c.in-Some.ensures.steps) in
    doc_table_behind D done rest c.in-Some.table whole ∙ ap (table_at D) (sym c.loop-table.invariant.3.one_each)

pub repair_next-requires-clause-earlier : goal.repair_next-requires-clause-earlier
repair_next-requires-clause-earlier c =
    subst (λ n. AreRepaired c.args.doc.now c.args.budget.nodes c.args.rounds n c.loop-table.parts.items) (sym c.loop-table.invariant.3.one_each)
    c.loop-table.invariant.3

pub returns-in_err-repair_next-clause-unrepaired : goal.returns-in_err-repair_next-clause-unrepaired
returns-in_err-repair_next-clause-unrepaired c =
    let D = c.args.doc.now in
    let budget = c.args.budget.nodes in
    let rounds = c.args.rounds in
    let done = c.loop-table.yielded in
    let rest = into_iter_items c.next.new.self in
    let n = length c.loop-table.parts.items in
    let e = c.in_err-repair_next.field-0.0 in
    let whole : tables_in D ≡ done ++ c.in-Some.table ∷ rest = grind (arith, common_steps, c.in-Some.ensures.steps) in
    let number : n ≡ length done = c.loop-table.invariant.3.one_each in
    let table = doc_table_behind D done rest c.in-Some.table whole ∙ ap (table_at D) (sym number) in
    let failed = subst (λ T. (e ≡ NoMemory) ⊎ RepairsNone T n budget rounds e ⊎ ((n ≡ 0) × IsRefusedStart T D.start budget rounds e)) table
    c.in_err-repair_next.ensures.unrepaired in
    refused-so (λ e. (e ≡ NoMemory) ⊎ FailsToRepair D budget rounds e) c.from_residual.result e c.from_residual.ensures.1
    (failed_here D budget rounds n c.loop-table.parts.items e c.requires.unconnected
    (subst (λ k. k < length D.tables) (sym number) (doc_behind D done rest c.in-Some.table whole))
    (subst (λ k. AreRepaired D budget rounds k c.loop-table.parts.items) (sym number) c.loop-table.invariant.3) failed)

pub text_of_parts-requires-clause-taken : goal.text_of_parts-requires-clause-taken
text_of_parts-requires-clause-taken c =
    let D = c.args.doc.now in
    let all : tables_in D ≡ c.loop-table.yielded = grind (arith, common_steps, c.in-None.ensures.steps) in
    let repaired = subst (λ n. AreRepaired D c.args.budget.nodes c.args.rounds n c.loop-table.parts.items) (ap length (sym all) ∙ table_count D) c.loop-table.invariant.3 in
    subst (λ (parts : List (Table × Tree)). IsTaken (replaced D parts)) (sym c.deref.ensures.value)
    (repaired_taken D c.args.budget.nodes c.args.rounds c.loop-table.parts.items c.requires.formed c.requires.taken c.requires.unconnected repaired)

pub text_of_parts-requires-clause-one_each : goal.text_of_parts-requires-clause-one_each
text_of_parts-requires-clause-one_each c =
    let D = c.args.doc.now in
    let all : tables_in D ≡ c.loop-table.yielded = grind (arith, common_steps, c.in-None.ensures.steps) in
    ap length c.deref.ensures.value ∙ c.loop-table.invariant.3.one_each ∙ ap length (sym all) ∙ table_count D

pub returns-clause-repaired : goal.returns-clause-repaired
returns-clause-repaired c =
    let D = c.args.doc.now in
    let all : tables_in D ≡ c.loop-table.yielded = grind (arith, common_steps, c.in-None.ensures.steps) in
    let repaired = subst (λ n. AreRepaired D c.args.budget.nodes c.args.rounds n c.loop-table.parts.items) (ap length (sym all) ∙ table_count D) c.loop-table.invariant.3 in
    on_both c.text_of_parts.result _ _ _
    (λ text printed reads.
    repaired_is D c.args.budget.nodes c.args.rounds c.loop-table.parts.items c.deref.result.now text.items c.args.budget.in_range.1 c.requires.unconnected repaired
    c.deref.ensures.value printed reads)
    c.text_of_parts.ensures.printed c.text_of_parts.ensures.reads
