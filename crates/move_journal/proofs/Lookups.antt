-- Names and their places.
use Rattle.std.proofs.Common.{◌≡◌, ℕ, ◌<◌, List, [], length, true, false, Option, Some, None, refl, sym, ◌∙◌, arith, get_or}
use Rattle.std.specs.List.{position_or_len}
use Rattle.std.specs.Option.{IfSome, IfNone}
use Rattle.std.specs.Str.{bytes_eq}
use Rattle.std.proofs.lemmas.Bool.{cond-true, cond-false, lt-ltb, le-ltb}
use Rattle.std.proofs.lemmas.List.Sums.{position_or_len_is}
use Rattle.std.proofs.lemmas.List.Quantifiers.{position-Some}
use Rattle.std.proofs.lemmas.Slice.Eq.{bytes_eq-Decides}
use Rattle.rail_model.specs.Names.{AreNames}
use Rattle.move_journal.specs.Words.{called}

pub bytes_eq-false : (a b : List ℕ) → (a ≡ b → ⊥) → bytes_eq a b ≡ false
bytes_eq-false a b ne = elim (bytes_eq a b) as (λ t. bytes_eq a b ≡ t → t ≡ false) [
  | true ↦ λ e. absurd (ne ((bytes_eq-Decides a b).0 e))
  | false ↦ λ e. refl
] refl

pub called_found : (names : List (List ℕ)) (word : List ℕ) (i : ℕ) → AreNames names → i < length names → word ≡ get_or names i [] → called names word ≡ Some i
unfolding called
called_found names word i are within is =
    let test = λ (name : List ℕ). bytes_eq name word in
    let at : position_or_len test names ≡ i =
    position_or_len_is test names i [] (omega arith)
    (λ k below. bytes_eq-false _ _ (λ e. absurd (let same : k ≡ i = are.apart k i (omega arith) within (e ∙ is) in omega arith)))
    (λ h. (bytes_eq-Decides _ _).1 (sym is)) in
    rw at (cond-true _ _ _ (lt-ltb i (length names) within))

pub called_none : (names : List (List ℕ)) (word : List ℕ) → ((i : ℕ) → i < length names → word ≡ get_or names i [] → ⊥) → called names word ≡ None
unfolding called
called_none names word none =
    let test = λ (name : List ℕ). bytes_eq name word in
    let at : position_or_len test names ≡ length names =
    position_or_len_is test names (length names) [] (omega arith)
    (λ k below. bytes_eq-false _ _ (λ e. none k below (sym e)))
    (λ h. absurd (omega arith)) in
    rw at (cond-false _ _ _ (le-ltb (length names) (length names) (omega arith)))

pub called_takes : (names : List (List ℕ)) (word : List ℕ) (i : ℕ) → called names word ≡ Some i → (i < length names) × (word ≡ get_or names i [])
unfolding called
called_takes names word i e =
    let p = position-Some (λ (name : List ℕ). bytes_eq name word) names i [] e in
    (p.0, sym ((bytes_eq-Decides _ _).0 p.1))

pub called_answer : (names : List (List ℕ)) (word : List ℕ) (r : Option ℕ) → AreNames names
    → IfSome r (λ i. (i < length names) × (word ≡ get_or names i []))
    → IfNone r ((i : ℕ) → i < length names → word ≡ get_or names i [] → ⊥) → r ≡ called names word
called_answer names word (Some i) are found none = sym (called_found names word i are found.0 found.1)
called_answer names word None are found none = sym (called_none names word none)
