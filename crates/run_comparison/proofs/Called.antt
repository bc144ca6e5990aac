-- The place of a name among names, no two of which are the same.
use Rattle.std.proofs.Common.{◌≡◌, ◌<◌, ℕ, List, [], length, Option, Some}
use Rattle.std.proofs.Common.{None, IfSome, IfNone, get_or, position, bytes_eq, sym, ◌∙◌, arith}
use Rattle.std.specs.Cmp.Lexicographic.{bytes_decides}
use Rattle.std.proofs.lemmas.Bool.{false_from_ne_true}
use Rattle.std.proofs.lemmas.List.{get_or_default}
use Rattle.rail_model.specs.Names.{AreNames}
use Rattle.rail_model.proofs.Places.{position_is, position_past}

-- the name is at place i, and at no other
called_at : (name : List ℕ) (names : List (List ℕ)) (i : ℕ) → AreNames names → i < length names
    → name ≡ get_or names i [] → Some i ≡ position (bytes_eq name) names
called_at name names i formed within is =
    sym
    (position_is (bytes_eq name) names i [] within
    (λ k below. false_from_ne_true _ (λ equal.
    let same : get_or names k [] ≡ get_or names i [] = sym ((bytes_decides name (get_or names k [])).0 equal) ∙ is in
    let one : k ≡ i = formed.apart k i (omega arith) within same in
    omega arith))
    ((bytes_decides name (get_or names i [])).1 is))

-- the name is nowhere
called_nowhere : (name : List ℕ) (names : List (List ℕ)) → ((i : ℕ) → i < length names → name ≡ get_or names i [] → ⊥)
    → None ≡ position (bytes_eq name) names
called_nowhere name names not_there =
    sym
    (position_past (bytes_eq name) names
    (λ k d lt. false_from_ne_true _ (λ equal.
    not_there k lt ((bytes_decides name (get_or names k d)).0 equal ∙ get_or_default names k d [] lt))))

-- what is found by a search is the place of the name
pub is_called : (name : List ℕ) (names : List (List ℕ)) (found : Option ℕ) → AreNames names
    → IfSome found (λ i. (i < length names) × (name ≡ get_or names i []))
    → IfNone found ((i : ℕ) → i < length names → name ≡ get_or names i [] → ⊥)
    → found ≡ position (bytes_eq name) names
is_called name names None formed there not_there = called_nowhere name names not_there
is_called name names (Some i) formed there not_there = called_at name names i formed there.0 there.1
