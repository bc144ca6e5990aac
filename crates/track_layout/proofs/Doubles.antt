-- Names that are numbered one by one: whether the next is among those before it.
use Rattle.std.proofs.Common.{◌≡◌, ℕ, Option, Ok, Err, ◌+◌, ◌<◌, List, [], ◌∷◌, ◌++◌, length, map, take, get_or, true, false, Some, None, option_map, String, Global, string_bytes, string_eq, bytes_eq, refl, sym, ap, subst, ◌∙◌, arith, position, length-append}
use Rattle.std.specs.List.{list_any, position_or_len}
use Rattle.std.proofs.lemmas.List.{length-map}
use Rattle.rail_model.specs.Naming.{double_at, first_double}
use Rattle.rail_model.specs.Turns.{first_below}
use Rattle.rail_model.proofs.Firsts.{first_below-next, first_below-found, unless-ok, unless-err}
use Rattle.track_layout.specs.Numbering.{numbered}
use Rattle.track_layout.specs.declared.numbers.NotNumbered.{NotNumbered}
use Rattle.track_layout.specs.declared.numbers.NotNumbered.TheVariants.{Double}
use Rattle.rail_model.proofs.Places.{position-map, position-from_any, position-from_none}

front : {X Y : Type 0} (f : X → Y) (xs ys : List X) → take (length xs) (map f (xs ++ ys)) ≡ map f xs
front f [] ys = refl
front f (x ∷ xs) ys = ap (λ t. f x ∷ t) (front f xs ys)

middle : {X Y : Type 0} (f : X → Y) (xs ys : List X) (y : X) (d : Y) → get_or (map f (xs ++ y ∷ ys)) (length xs) d ≡ f y
middle f [] ys y d = refl
middle f (x ∷ xs) ys y d = middle f xs ys y d

-- the next name is looked for among the names before it
looked_for : (done rest : List (String Global)) (name : String Global)
    → double_at (map string_bytes (done ++ name ∷ rest)) (length done) ≡ option_map (λ first. (first, length done)) (position (string_eq name) done)
looked_for done rest name =
    let here = middle string_bytes done rest name [] in
    let before = front string_bytes done (name ∷ rest) in
    (λ i. option_map (λ first. (first, length done)) (position (bytes_eq (here i)) (before i)))
    ∙ ap (option_map (λ first. (first, length done))) (position-map (bytes_eq (string_bytes name)) string_bytes done)

-- a new name is no double
pub new_name : (all done rest : List (String Global)) (name : String Global) → all ≡ done ++ name ∷ rest → list_any (string_eq name) done ≡ false
    → first_below (length done) (double_at (map string_bytes all)) ≡ None
    → first_below (length (done ++ name ∷ [])) (double_at (map string_bytes all)) ≡ None
new_name all done rest name whole new before =
    let size : length (done ++ name ∷ []) ≡ length done + 1 = omega (arith, length-append done (name ∷ [])) in
    let here : double_at (map string_bytes all) (length done) ≡ None =
    ap (λ names. double_at (map string_bytes names) (length done)) whole
    ∙ looked_for done rest name ∙ ap (option_map (λ first. (first, length done))) (position-from_none (string_eq name) done new) in
    subst (λ n. first_below n (double_at (map string_bytes all)) ≡ None) (sym size) (first_below-next (length done) _ before here)

-- a name that is there is the first double
pub known_name : (all done rest : List (String Global)) (name : String Global) → all ≡ done ++ name ∷ rest → list_any (string_eq name) done ≡ true
    → first_below (length done) (double_at (map string_bytes all)) ≡ None
    → first_double (map string_bytes all) ≡ Some (position_or_len (string_eq name) done, length done)
known_name all done rest name whole known before =
    let size : length (map string_bytes all) ≡ length all = length-map all string_bytes in
    let long : length all ≡ length (done ++ name ∷ rest) = ap length whole in
    let within : length done < length (map string_bytes all) = omega (arith, length-append done (name ∷ rest)) in
    let here : double_at (map string_bytes all) (length done) ≡ Some (position_or_len (string_eq name) done, length done) =
    ap (λ names. double_at (map string_bytes names) (length done)) whole
    ∙ looked_for done rest name ∙ ap (option_map (λ first. (first, length done))) (position-from_any (string_eq name) done known) in
    first_below-found (length (map string_bytes all)) (length done) (double_at (map string_bytes all)) _ within before here

-- numbered names are no doubles, and stay as they are
pub numbered_apart : (names numbers : List (List ℕ)) → numbered names ≡ Ok numbers → (first_double names ≡ None) × (names ≡ numbers)
numbered_apart names numbers h =
    let both = unless-ok (option_map (λ pair. Double pair.0 pair.1) (first_double names)) names numbers h in
    (by (first_double names) both.0, both.1)
  where
    by : (d : Option (ℕ × ℕ)) → option_map (λ pair. Double pair.0 pair.1) d ≡ None → d ≡ None
    by None h = refl
    by (Some p) h = absurd cc

-- names that aren't numbered have a double
pub numbered_double : (names : List (List ℕ)) (e : NotNumbered) → numbered names ≡ Err e → (pair : ℕ × ℕ) × (first_double names ≡ Some pair) × (e ≡ Double pair.0 pair.1)
numbered_double names e h = by (first_double names) (unless-err (option_map (λ pair. Double pair.0 pair.1) (first_double names)) names e h)
  where
    by : (d : Option (ℕ × ℕ)) → option_map (λ pair. Double pair.0 pair.1) d ≡ Some e → (pair : ℕ × ℕ) × (d ≡ Some pair) × (e ≡ Double pair.0 pair.1)
    by None h = absurd cc
    by (Some p) h = (p, refl, cc)
