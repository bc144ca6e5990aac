-- Work of several parts that ends with the first one that is at an end.
use Rattle.std.proofs.Common.{◌≡◌, ℕ, suc, ◌<◌, ◌≤◌, List, [], ◌∷◌, length, sym, arith, inl, inr}
use Rattle.std.specs.List.{All}
use Rattle.std.proofs.lemmas.List.Elements.{All-tail}
use mathlib.Core.Logic.{dite}
use native.Mathlib.Decide.{ℕ_discrete}
use Rattle.shared_run.specs.Rounds.{EndsAtFirst}

module _ {A : Type 0} (AtEnd : A → Type 0) where
  abbrev pub NoneEnded : List A → Type 0
  NoneEnded made = All (λ one. AtEnd one → ⊥) made

  pub ended_early : (wanted : ℕ) (last : A) (earlier : List A) → length earlier < wanted → NoneEnded earlier → AtEnd last
      → EndsAtFirst AtEnd wanted (last ∷ earlier)
  ended_early wanted last earlier lt none ended =
      (none, dite (ℕ_discrete (suc (length earlier)) wanted) (λ e. inl e) (λ ne. inr (omega (arith, lt, ne), ended)))

  pub ended_whole : (wanted : ℕ) (made : List A) → length made ≡ wanted → NoneEnded made → EndsAtFirst AtEnd wanted made
  ended_whole wanted [] all none = sym all
  ended_whole wanted (last ∷ earlier) all none = (All-tail (λ one. AtEnd one → ⊥) last earlier none, inl all)

  pub ended_within : (wanted : ℕ) (made : List A) → EndsAtFirst AtEnd wanted made → length made ≤ wanted
  ended_within wanted [] all = omega arith
  ended_within wanted (last ∷ earlier) ends = elim ends.1 [
    | inl all ↦ omega (arith, all)
    | inr few ↦ let lt = few.0 in omega (arith, lt)
  ]
