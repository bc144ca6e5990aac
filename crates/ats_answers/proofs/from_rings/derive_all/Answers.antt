use Rattle.std.proofs.Common.{◌≡◌, ◌⊎◌, ℕ, ◌+◌, ◌<◌, ◌∷◌, [], ◌++◌, length, take, sym, ◌∙◌, ap, subst, arith, inl, inr, length-append, below_more}
use Rattle.std.specs.Vec.Iter.{into_iter_items}
use Rattle.std.proofs.lemmas.Grind.{common_steps}
use Rattle.rail_model.specs.State.{Legal}
use Rattle.document_json.specs.Doc.{table_at}
use Rattle.document_json.proofs.Offered.{offer_count}
use Rattle.document_json.proofs.Refusals.{refused-so}
use Rattle.ats_answers.specs.Deriving.{derived_table, derived, HasFewRings, HaveFewRings, HasManyRings}
use Rattle.ats_answers.specs.declared.failure.Failure.TheVariants.{Memory as NoMemory}
use Rattle.ats_answers.specs.Making.{tables_in, table_in}
use Rattle.ats_answers.specs.Starting.{IsBadStart}
use Rattle.ats_answers.proofs.Derived.{derived_more, all_derived, all_few, many_here, of_first}
use Rattle.ats_answers.proofs.Made.{doc_behind, doc_table_behind}
use Rattle.ats_answers.proofs.from_rings.derive_all.Goals as goal

pub loop-table-preserved : goal.loop-table-preserved
loop-table-preserved c =
    let D = c.args.doc.now in
    let most = c.args.most in
    let done = c.loop-table.yielded in
    let rest = into_iter_items c.next.new.self in
    let T = c.in-Some.table in
    let whole : tables_in D ≡ done ++ T ∷ rest = grind (arith, common_steps, c.in-Some.ensures.steps) in
    let at = doc_table_behind D done rest T whole in
    let size : length (done ++ T ∷ []) ≡ length done + 1 = length-append done (T ∷ []) in
    let longer = c.in_ok-derive_next.ensures.table in (
      tt,
      tt,
      grind (arith, common_steps, whole),
      ap length longer ∙ length-append c.loop-table.marked.items (derived_table most T ∷ []) ∙ ap (λ n. n + 1) c.loop-table.invariant.3 ∙ sym size,
      subst (λ n. c.derive_next.new.marked.items ≡ take n (derived D most)) (sym size)
          (derived_more D most (length done) (derived_table most T) c.loop-table.marked.items _ (doc_behind D done rest T whole) c.loop-table.invariant.4
          (ap (derived_table most) at) longer),
      subst (λ n. (u : ℕ) → u < n → HasFewRings most (table_at D u)) (sym size)
          (below_more _ _ c.loop-table.invariant.5 (subst (HasFewRings most) at c.in_ok-derive_next.ensures.few)),
    )

pub derive_next-requires-clause-count : goal.derive_next-requires-clause-count
derive_next-requires-clause-count c =
    let D = c.args.doc.now in
    let done = c.loop-table.yielded in
    let rest = into_iter_items c.next.new.self in
    let whole : tables_in D ≡ done ++ c.in-Some.table ∷ rest = grind (arith, common_steps, c.in-Some.ensures.steps) in
    let few = c.start-start.ensures.formed.tables.few in
    omega (arith, c.loop-table.invariant.3, doc_behind D done rest c.in-Some.table whole, offer_count D, few)

pub returns-in_err-derive_next-clause-refused : goal.returns-in_err-derive_next-clause-refused
returns-in_err-derive_next-clause-refused c =
    let D = c.args.doc.now in
    let most = c.args.most in
    let done = c.loop-table.yielded in
    let rest = into_iter_items c.next.new.self in
    let T = c.in-Some.table in
    let e = c.in_err-derive_next.field-0.0 in
    let whole : tables_in D ≡ done ++ T ∷ rest = grind (arith, common_steps, c.in-Some.ensures.steps) in
    let many =
    many_here D most (length done) (length c.loop-table.marked.items) T e (doc_behind D done rest T whole) (doc_table_behind D done rest T whole)
    c.loop-table.invariant.3 c.loop-table.invariant.5 c.in_err-derive_next.ensures.many in
    refused-so (λ e. (e ≡ NoMemory) ⊎ HasManyRings D most e ⊎ (HaveFewRings D most × IsBadStart (table_in (derived D most) 0) D.start e))
    c.from_residual.result e c.from_residual.ensures.1
    (elim many [ inl memory ↦ inl memory | inr many ↦ inr (inl many) ])

pub returns-in_err-check_start-clause-refused : goal.returns-in_err-check_start-clause-refused
returns-in_err-check_start-clause-refused c =
    let D = c.args.doc.now in
    let most = c.args.most in
    let start = c.start-start.ensures in
    let e = c.in_err-check_start.field-0.0 in
    let all : tables_in D ≡ c.loop-table.yielded = grind (arith, common_steps, c.in-None.ensures.steps) in
    let bad =
    of_first D most (λ T p. IsBadStart T p e) c.loop-table.marked.items c.index.result.now c.start-start.result.now start.formed
    (all_derived D most c.loop-table.yielded c.loop-table.marked.items all c.loop-table.invariant.4) c.index.ensures start.start
    c.in_err-check_start.ensures.bad in
    refused-so (λ e. (e ≡ NoMemory) ⊎ HasManyRings D most e ⊎ (HaveFewRings D most × IsBadStart (table_in (derived D most) 0) D.start e))
    c.from_residual-in_err-check_start.result e c.from_residual-in_err-check_start.ensures.1
    (inr (inr (all_few D most c.loop-table.yielded all c.loop-table.invariant.5, bad)))

pub returns-clause-tables : goal.returns-clause-tables
returns-clause-tables c =
    let all : tables_in c.args.doc.now ≡ c.loop-table.yielded = grind (arith, common_steps, c.in-None.ensures.steps) in
    all_derived c.args.doc.now c.args.most c.loop-table.yielded c.loop-table.marked.items all c.loop-table.invariant.4

pub returns-clause-few : goal.returns-clause-few
returns-clause-few c =
    let all : tables_in c.args.doc.now ≡ c.loop-table.yielded = grind (arith, common_steps, c.in-None.ensures.steps) in
    all_few c.args.doc.now c.args.most c.loop-table.yielded all c.loop-table.invariant.5

pub returns-clause-start : goal.returns-clause-start
returns-clause-start c =
    let D = c.args.doc.now in
    let start = c.start-start.ensures in
    let all : tables_in D ≡ c.loop-table.yielded = grind (arith, common_steps, c.in-None.ensures.steps) in
    of_first D c.args.most Legal c.loop-table.marked.items c.index.result.now c.start-start.result.now start.formed
    (all_derived D c.args.most c.loop-table.yielded c.loop-table.marked.items all c.loop-table.invariant.4) c.index.ensures start.start
    c.in_ok-check_start.ensures.legal
