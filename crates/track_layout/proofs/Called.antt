-- The place of a name in a list of names.
use Rattle.std.proofs.Common.{◌≡◌, ℕ, List, [], Contains, Some, None, slice_get, get_or, position, bytes_eq, sym, ap, ◌∙◌}
use Rattle.std.specs.Cmp.Lexicographic.{bytes_decides}
use Rattle.std.proofs.lemmas.Bool.Decides.{not_from_Decides}
use Rattle.std.proofs.lemmas.List.Quantifiers.{position-Some}
use Rattle.std.proofs.lemmas.Option.{slice_get-get_or, slice_get_within, get_or_from_slice_get}
use Rattle.rail_model.proofs.Places.{position-none}

-- the name is at the place that is found
pub called_there : (names : List (List ℕ)) (name : List ℕ) (q : ℕ) → Some q ≡ position (bytes_eq name) names → slice_get names q ≡ Some name
called_there names name q h =
    let there = position-Some (bytes_eq name) names q [] (sym h) in
    slice_get-get_or names q [] there.0 ∙ ap Some (sym ((bytes_decides name (get_or names q [])).0 there.1))

pub called_among : (names : List (List ℕ)) (name : List ℕ) (q : ℕ) → slice_get names q ≡ Some name → Contains names name
called_among names name q h = (q, slice_get_within names q name h, get_or_from_slice_get names q name name h)

-- where no place is found, the name isn't there
pub called_nowhere : (names : List (List ℕ)) (name : List ℕ) → None ≡ position (bytes_eq name) names → Contains names name → ⊥
called_nowhere names name h there =
    not_from_Decides _ (bytes_decides name (get_or names there.0 name)) (position-none (bytes_eq name) names there.0 name (sym h) there.1) (sym there.2)
