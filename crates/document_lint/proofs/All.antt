-- The facts that are found are all.
use Rattle.std.proofs.Common.{◌≡◌, inl, inr, List, [], Vec, true, false, ap, sym, subst, arith}
use Rattle.std.specs.Prelude.{Contains, length}
use Rattle.std.specs.declared.alloc.Global.{Global}
use Rattle.document_facts.specs.declared.fact.Fact.{Fact}
use Rattle.document_facts.specs.declared.found.Found.{Found}
use Rattle.document_facts.specs.Adding.{Adds}
use Rattle.document_lint.specs.Told.{AreAll, IsRight}

true_is_not_false : true ≡ false → ⊥
true_is_not_false e = cc

-- an empty list has no fact
none_in : (facts : List Fact) (f : Fact) → facts ≡ [] → Contains facts f → ⊥
none_in facts f empty is = let none = ap length empty in let lt = is.1 in omega (arith, none, lt)

pub all_found : (IsSo : Fact → Type 0) (a b : Found) → a.facts.items ≡ [] → Adds (IsRight IsSo) IsSo a b → (facts : Vec Fact Global) →
    (facts ≡ b.facts) × (b.is_out_of_memory ≡ false) → AreAll IsSo facts.items
all_found IsSo a b empty adds facts is = record {
  right = λ f here. elim (adds.only f (subst (λ v. Contains v.items f) is.0 here)) [
    | inl before ↦ absurd (none_in a.facts.items f empty before)
    | inr right ↦ right
  ];
  whole = λ f so. elim (adds.added f so) [
    | inl lost ↦ absurd (let kept = is.1 in let both : true ≡ false = cc in true_is_not_false both)
    | inr here ↦ subst (λ v. Contains v.items f) (sym is.0) here
  ];
}
