-- What it means that there is no remark.
use Rattle.std.proofs.Common.{◌≡◌, ℕ, List, [], Option, Some, None, inl, refl, ap, arith}
use Rattle.std.specs.Prelude.{Result, Ok, Err, MatchResult, length}
use Rattle.document_json.specs.Doc.{Doc}
use Rattle.document_json.specs.Reading.{doc_of}
use Rattle.document_json.specs.declared.refused.DocRefused.{DocRefused}
use Rattle.document_facts.specs.Facts.{Holds}
use Rattle.document_lint.specs.Told.{AreRemarks, IsSoOf, facts_of}
use Rattle.document_facts.specs.declared.fact.Fact.{Fact}
use Rattle.document_facts.specs.declared.fact.Fact.TheVariants.{Refused}
use Rattle.document_lint.specs.declared.remark.Remark.{Remark}
use Rattle.plan_input.specs.Standing.{ReadsAsDocument}
use Rattle.planner_run.specs.Answered.{NeedsNoRemark}
use denote.Ref.{Bor}

-- where there is no remark, nothing is so that one would tell
nothing_so : (IsSo : Fact → Type 0) (remarks : List Remark) → remarks ≡ [] → AreRemarks IsSo remarks → (f : Fact) → IsSo f → ⊥
nothing_so IsSo remarks empty are f so =
    let there = are.whole f so in
    let none = ap (λ rs. length (facts_of rs)) empty in
    let lt = there.1 in
    omega (arith, none, lt)

-- bytes of which it isn't so that they are refused are a document
not_refused : (input : List ℕ) (read : Result Doc DocRefused) → doc_of input ≡ read → (MatchResult read (λ D. Holds D Refused) (λ e. Refused ≡ Refused) → ⊥) →
    ReadsAsDocument input
not_refused input (Ok D) is none = (D, is)
not_refused input (Err e) is none = absurd (none refl)

reads : (former : Option (Bor (List ℕ))) (input : List ℕ) → ((f : Fact) → IsSoOf former input f → ⊥) → ReadsAsDocument input
reads None input none = not_refused input (doc_of input) refl (none Refused)
reads (Some former) input none = not_refused input (doc_of input) refl (λ so. none Refused (inl so))

pub needs_none : (former : Option (Bor (List ℕ))) (input : List ℕ) (remarks : List Remark) → remarks ≡ [] → AreRemarks (IsSoOf former input) remarks →
    NeedsNoRemark former input
needs_none former input remarks empty are =
    let none = nothing_so (IsSoOf former input) remarks empty are in
    (reads former input none, none)
