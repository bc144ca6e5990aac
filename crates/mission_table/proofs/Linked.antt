-- The test of links says what the definition says.
use Rattle.std.proofs.Common.{◌≡◌, ◌⊎◌, ◌<◌, length, subst, ℕ, Bool, true, ◌==◌, ◌&&◌, ◌||◌, List, Contains, Decides, get_or, refl, ap, ◌∙◌, inl, inr}
use Rattle.std.proofs.lemmas.Bool.Decides.{Decides-eqb, Decides-and, Decides-or}
use Rattle.std.proofs.lemmas.List.Folds.{Any-from_list_any, list_any_at}
use Rattle.rail_model.specs.Layout.{Layout, Link, AreLinked}
use Rattle.mission_table.specs.Ways.{are_linked}

-- a link between the two points
abbrev pub joins : ℕ → ℕ → Link → Bool
joins a b l = (l.first == a && l.second == b) || (l.first == b && l.second == a)

Decides-joins : (a b : ℕ) (l : Link) → Decides (joins a b l) (((l.first ≡ a) × (l.second ≡ b)) ⊎ ((l.first ≡ b) × (l.second ≡ a)))
Decides-joins a b l =
    Decides-or _ _ (Decides-and _ _ (Decides-eqb l.first a) (Decides-eqb l.second b)) (Decides-and _ _ (Decides-eqb l.first b) (Decides-eqb l.second a))

among : (links : List Link) (k : ℕ) (l : Link) (a b : ℕ) → k < length links → get_or links k l ≡ l → l.first ≡ a → l.second ≡ b
    → Contains links (record { first = a; second = b })
among links k l a b lt at first second =
    let same : l ≡ record { first = a; second = b } = λ i. record { first = first i; second = second i } in
    subst (Contains links) same (k, lt, at)

linked_from : (L : Layout) (a b : ℕ) → are_linked L a b ≡ true → AreLinked L a b
linked_from L a b h =
    let some = Any-from_list_any (joins a b) L.links h in
    elim ((Decides-joins a b some.1).0 some.4) [
      | inl e ↦ inl (among L.links some.0 some.1 a b some.2 some.3 e.0 e.1)
      | inr e ↦ inr (among L.links some.0 some.1 b a some.2 some.3 e.0 e.1)
    ]

tested : (L : Layout) (a b : ℕ) (l : Link) → joins a b l ≡ true → Contains L.links l → are_linked L a b ≡ true
tested L a b l h there = list_any_at (joins a b) L.links there.0 l there.1 (ap (joins a b) there.2 ∙ h)

pub Decides-linked : (L : Layout) (a b : ℕ) → Decides (are_linked L a b) (AreLinked L a b)
Decides-linked L a b = (
  linked_from L a b,
  λ linked. elim linked [
    | inl there ↦ tested L a b (record { first = a; second = b }) ((Decides-joins a b (record { first = a; second = b })).1 (inl (refl, refl))) there
    | inr there ↦ tested L a b (record { first = b; second = a }) ((Decides-joins a b (record { first = b; second = a })).1 (inr (refl, refl))) there
  ],
)
