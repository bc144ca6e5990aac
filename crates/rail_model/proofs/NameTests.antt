-- The tests of names say what the definitions say.
use Rattle.std.proofs.Common.{◌≡◌, not, inl, inr, ◌∙◌, ap, subst, length-take, ℕ, ◌<◌, List, [], length, take, Option, Some, None, option_map, slice_index_or, position, bytes_eq, Decides, refl, sym, arith}
use Rattle.std.specs.List.{list_all}
use Rattle.std.proofs.lemmas.Bool.Decides.{Decides-and, Decides-or, Decides-eqb, Decides-ltb, Decides-like, Decides-by_and, not_from_Decides, eqb_tells, leb_tells}
use Rattle.std.specs.Cmp.Lexicographic.{bytes_decides}
use Rattle.std.proofs.lemmas.List.{get_or-take}
use Rattle.std.proofs.lemmas.List.Quantifiers.{position-Some}
use Rattle.std.proofs.lemmas.Option.{some_pair_parts}
use Rattle.rail_model.specs.Names.{IsNameByte, IsName, AreNames}
use Rattle.rail_model.specs.Naming.{is_name_byte, is_name, double_at, first_double, IsFirstDouble}
use Rattle.rail_model.proofs.Agree.{Decides-leb}
use Rattle.rail_model.proofs.Firsts.{first_below-none, first_below-some, passing}
use Rattle.rail_model.proofs.Places.{position-none}

pub Decides-name_byte : (c : ℕ) → Decides (is_name_byte c) (IsNameByte c)
Decides-name_byte c =
    Decides-or _ _ (Decides-and _ _ (Decides-leb 48 c) (Decides-leb c 57))
    (Decides-or _ _ (Decides-and _ _ (Decides-leb 65 c) (Decides-leb c 90))
    (Decides-or _ _ (Decides-and _ _ (Decides-leb 97 c) (Decides-leb c 122)) (Decides-eqb c 95)))

pub Decides-name : (text : List ℕ) → Decides (is_name text) (IsName text)
Decides-name text =
    Decides-like (is_name text)
    (λ h. record { some = h.0.0; short = h.0.1; plain = h.1 })
    (λ h. ((h.some, h.short), h.plain))
    (Decides-and _ _
    (Decides-and _ _ (Decides-ltb 0 (length text)) (Decides-leb (length text) 16))
    (Decides-by_and is_name_byte IsNameByte (list_all is_name_byte) Decides-name_byte refl (λ _ _. refl) text))

-- the earlier place of the same name, for a place
abbrev earlier : List (List ℕ) → ℕ → Option ℕ
earlier names second = position (bytes_eq (slice_index_or names second [])) (take second names)

pair_some : (o : Option ℕ) (j a b : ℕ) → option_map {U = ℕ × ℕ} (λ i. (i, j)) o ≡ Some (a, b) → (o ≡ Some a) × (j ≡ b)
pair_some None j a b h = absurd cc
pair_some (Some i) j a b h = let s = some_pair_parts i a j b h in (ap Some s.0, s.1)

pair_none : (o : Option ℕ) (j : ℕ) → option_map {U = ℕ × ℕ} (λ i. (i, j)) o ≡ None → o ≡ None
pair_none None j h = refl
pair_none (Some i) j h = absurd cc

apart_at : (names : List (List ℕ)) (i j : ℕ) → i < j → j < length names → earlier names j ≡ None → slice_index_or names i [] ≡ slice_index_or names j [] → ⊥
apart_at names i j lt within none same =
    let short : i < length (take j names) = rw length-take (omega arith) in
    let differs = position-none (bytes_eq (slice_index_or names j [])) (take j names) i [] none short in
    let there : slice_index_or (take j names) i [] ≡ slice_index_or names j [] = get_or-take j names i [] lt ∙ same in
    not_from_Decides _ (bytes_decides (slice_index_or names j []) (slice_index_or (take j names) i [])) differs (sym there)

-- where no name is repeated, names at two places differ
pub first_double-none : (names : List (List ℕ)) → first_double names ≡ None → (i j : ℕ) → i < j → j < length names → slice_index_or names i [] ≡ slice_index_or names j [] → ⊥
first_double-none names h i j lt within =
    let none = pair_none (earlier names j) j (first_below-none (length names) (double_at names) h j within) in
    apart_at names i j lt within none

-- the name that is repeated first
pub first_double-some : (names : List (List ℕ)) (first second : ℕ) → first_double names ≡ Some (first, second) → IsFirstDouble names first second
first_double-some names first second h =
    let found = first_below-some (length names) (double_at names) (first, second) h in
    at_place names first second found.at found.within found.refused found.before
  where
    at_place : (names : List (List ℕ)) (first second at : ℕ) → at < length names
        → option_map {U = ℕ × ℕ} (λ i. (i, at)) (earlier names at) ≡ Some (first, second)
        → ((k : ℕ) → k < at → option_map {U = ℕ × ℕ} (λ i. (i, k)) (earlier names k) ≡ None) → IsFirstDouble names first second
    at_place names first second at within refused before =
        let parts = pair_some (earlier names at) at first second refused in
        let there = position-Some (bytes_eq (slice_index_or names at [])) (take at names) first [] parts.0 in
        let in_front : first < length (take at names) = there.0 in
        let size = length-take at names in
        let lower : first < at = omega arith in
        let equal = (bytes_decides (slice_index_or names at []) (slice_index_or (take at names) first [])).0 there.1 in
        let same : slice_index_or names first [] ≡ slice_index_or names at [] = sym (get_or-take at names first [] lower) ∙ sym equal in
        let apart : (i j : ℕ) → i < j → j < at → slice_index_or names i [] ≡ slice_index_or names j [] → ⊥ =
        λ i j lt l e. apart_at names i j lt (omega arith) (pair_none (earlier names j) j (before j l)) e in
        subst (IsFirstDouble names first) parts.1 (record { within = within; before = lower; same = same; apart = apart })

named_apart : (names : List (List ℕ)) → first_double names ≡ None → (i j : ℕ) → i < length names → j < length names
    → slice_index_or names i [] ≡ slice_index_or names j [] → i ≡ j
named_apart names single i j li lj same = elim (eqb_tells i j) [
  | inl e ↦ e.1
  | inr d ↦ elim (leb_tells i j) [
    | inl e ↦ let before = e.1 in let other = d.1 in absurd (first_double-none names single i j (omega arith) lj same)
    | inr e ↦ absurd (first_double-none names single j i e.1 li (sym same))
  ]
]

-- texts that pass the tests are names, no two of them the same
pub are_names : (names : List (List ℕ)) → position (λ name. not (is_name name)) names ≡ None → first_double names ≡ None → AreNames names
are_names names good single = record {
  each = λ i lt. (Decides-name (slice_index_or names i [])).0 (passing (is_name (slice_index_or names i [])) (position-none (λ name. not (is_name name)) names i [] good lt));
  apart = named_apart names single;
}
