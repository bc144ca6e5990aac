-- Shapes: what a value is read as, and None where it has another shape.
use Rattle.std.specs.Prelude.{ℕ, ◌-◌, ◌^◌, ℤ, pos, neg_ℤ, int_le, ◌&&◌, List, [], ◌∷◌, Bool, Option, Some, None, option_map, option_and_then, nat_lt, if◌then◌else◌}
use Rattle.serde_json.specs.Data.{Data, Items, no_items, item}
use Rattle.serde_json.specs.Find.{get, as_array, as_bool, as_number, as_object, as_str, as_u64, as_i64}

abbrev pub Shape : Type 0 → Type 0
Shape A = Data → Option A

-- an integer from 0 to 4,294,967,295
abbrev pub whole : Shape ℕ
whole d = option_and_then (λ n. if nat_lt n (2 ^ 32) then Some n else None) (option_and_then as_u64 (as_number d))

-- an integer from -2,147,483,648 to 2,147,483,647
abbrev pub change : Shape ℤ
change d =
    option_and_then (λ z. if int_le (neg_ℤ (pos (2 ^ 31))) z && int_le z (pos (2 ^ 31 - 1)) then Some z else None)
    (option_and_then as_i64 (as_number d))

abbrev pub truth : Shape Bool
truth d = as_bool d

abbrev pub text : Shape (List ℕ)
text d = as_str d

-- an object, as it is
abbrev pub object : Shape Data
object d = option_map (λ _. d) (as_object d)

-- the items, each of one shape
abbrev pub each : {A : Type 0} → Shape A → Items → Option (List A)
each shape no_items = Some []
each shape (item d ds) = option_and_then (λ x. option_map (λ xs. x ∷ xs) (each shape ds)) (shape d)

abbrev pub list_of : {A : Type 0} → Shape A → Shape (List A)
list_of shape d = option_and_then (each shape) (as_array d)

-- just two items, of two shapes
abbrev pub two : {A B : Type 0} → Shape A → Shape B → Items → Option (A × B)
two a b (item x (item y no_items)) = option_and_then (λ p. option_map (λ q. (p, q)) (b y)) (a x)
two a b _ = None

abbrev pub pair : {A B : Type 0} → Shape A → Shape B → Shape (A × B)
pair a b d = option_and_then (two a b) (as_array d)

-- a member that has to be there
abbrev pub at : {A : Type 0} → List ℕ → Shape A → Shape A
at name shape d = option_and_then shape (get name d)
