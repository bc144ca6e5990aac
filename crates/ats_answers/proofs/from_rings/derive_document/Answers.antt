use Rattle.std.proofs.Common.{◌≡◌, ◌⊎◌, ◌≤◌, List, length, sym, subst, inl, inr}
use Rattle.rail_model.specs.Table.{Table}
use Rattle.document_json.proofs.Refusals.{refused-so}
use Rattle.ats_answers.specs.Deriving.{FailsToDerive}
use Rattle.ats_answers.specs.Making.{FailsToMake}
use Rattle.ats_answers.specs.declared.failure.Failure.TheVariants.{Memory as NoMemory}
use Rattle.ats_answers.proofs.AcceptedText.{on_both}
use Rattle.ats_answers.proofs.Derived.{few_tables, still_taken, derived_is}
use Rattle.ats_answers.proofs.from_rings.derive_document.Goals as goal

pub make_each-requires : goal.make_each-requires
make_each-requires c = record {
  few = subst (λ (tables : List Table). length tables ≤ 16) (sym c.in_ok-marked.ensures.tables) (few_tables c.args.doc.now c.args.most c.derive_all.ensures.formed);
}

pub returns-in_err-marked-clause-underived : goal.returns-in_err-marked-clause-underived
returns-in_err-marked-clause-underived c =
    refused-so (λ e. (e ≡ NoMemory) ⊎ FailsToDerive c.args.doc.now c.args.most c.args.budget.nodes e) c.from_residual.result
    c.in_err-marked.field-0.0 c.from_residual.ensures.1
    (elim c.in_err-marked.ensures.refused [ inl memory ↦ inl memory | inr (inl many) ↦ inr (inl many) | inr (inr bad) ↦ inr (inr (inl bad)) ])

pub returns-in_err-parts-clause-underived : goal.returns-in_err-parts-clause-underived
returns-in_err-parts-clause-underived c =
    let marked = c.in_ok-marked.ensures in
    let e = c.in_err-parts.field-0.0 in
    refused-so (λ e. (e ≡ NoMemory) ⊎ FailsToDerive c.args.doc.now c.args.most c.args.budget.nodes e) c.from_residual-in_err-parts.result
    e c.from_residual-in_err-parts.ensures.1
    (elim c.in_err-parts.ensures.unmade [
      | inl memory ↦ inl memory
      | inr none ↦ inr (inr (inr (
        marked.few,
        marked.start,
        subst (λ (tables : List Table). FailsToMake tables c.args.budget.nodes e) marked.tables none,
      )))
    ])

pub text_of_parts-requires-clause-taken : goal.text_of_parts-requires-clause-taken
text_of_parts-requires-clause-taken c =
    let marked = c.in_ok-marked.ensures in
    still_taken c.args.doc.now c.args.most c.args.budget.nodes c.in_ok-marked.marked.items c.in_ok-parts.parts.items c.deref.result.now
    c.derive_all.ensures.formed c.requires.taken marked.few marked.start marked.tables c.in_ok-parts.ensures.made c.deref.ensures.value

pub returns-clause-derived : goal.returns-clause-derived
returns-clause-derived c =
    let marked = c.in_ok-marked.ensures in
    on_both c.text_of_parts.result _ _ _
    (λ text printed reads.
    derived_is c.args.doc.now c.args.most c.args.budget.nodes c.in_ok-marked.marked.items c.in_ok-parts.parts.items c.deref.result.now text.items c.args.budget.in_range.1
    marked.few marked.start marked.tables c.in_ok-parts.ensures.made c.deref.ensures.value printed reads)
    c.text_of_parts.ensures.printed c.text_of_parts.ensures.reads
