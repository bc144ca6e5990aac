-- Whether what a text says is what stands at its places in a plan.
use Rattle.std.specs.Prelude.{◌≡◌, ℕ, ℤ, pos, List, [], ◌∷◌, length, zip, ◌==◌, ◌&&◌, ◌||◌, not, Bool, true, false, if◌then◌else◌, codes, String, string_bytes, bytes_eq, Option, Some, None, option_and_then, option_map, unwrap_or}
use Rattle.std.specs.List.{list_all}
use Rattle.std.specs.Borrow.{Bor}
use Rattle.std.specs.Ordering.{int_eq}
use Rattle.std.specs.declared.alloc.Global.{Global}
use Rattle.toml.specs.Data.{Data, Items, no_items, item, get, as_str, as_integer, as_bool, as_array}
use Rattle.toml.specs.View.{view}
use Rattle.toml.specs.declared.value.Value.{Value}
use Rattle.plan_reading.specs.Places.{is_place}

-- whether each item is what stands at its place, and there are as many
abbrev pub agree_all : {X : Type 0} → (Data → X → Bool) → Items → List X → Bool
agree_all t no_items [] = true
agree_all t no_items (x ∷ xs) = false
agree_all t (item d ds) [] = false
agree_all t (item d ds) (x ∷ xs) = t d x && agree_all t ds xs

-- whether each value is what stands beside it
abbrev pub agree_beside : {X : Type 0} → (Data → X → Bool) → List Value → List X → Bool
agree_beside t vs xs = list_all (λ p. t (view p.0) p.1) (zip vs xs)

-- the same, and there are as many
abbrev pub agree_values : {X : Type 0} → (Data → X → Bool) → List Value → List X → Bool
agree_values t vs xs = (length vs == length xs) && agree_beside t vs xs

-- each answer at a value is that of a test of the item that the value stands for
abbrev pub Tells : {X : Type 0} → (Bor Value → Bor X → Bool → Type 0) → (Data → X → Bool) → Type 0
Tells {X} P t = (v : Bor Value) (x : Bor X) (b : Bool) → P v x b → b ≡ t (view v.now) x.now

-- what a value that may be there stands for
abbrev pub seen : Option (Bor Value) → Option Data
seen v = option_map (λ w. view w.now) v

-- what an entry has at a key, if that is a text, and if it is a number
abbrev pub text_at : List ℕ → Data → Option (List ℕ)
text_at key entry = option_and_then as_str (get key entry)

abbrev pub number_at : List ℕ → Data → Option ℤ
number_at key entry = option_and_then as_integer (get key entry)

-- what is said at a key, if anything is, and if it is a list
abbrev pub value_at : List ℕ → Option Data → Option Data
value_at key said = option_and_then (get key) said

abbrev pub list_at : List ℕ → Option Data → Option Items
list_at key said = option_and_then as_array (value_at key said)

-- whether there is a text, and it is this name
abbrev pub is_text : Option (List ℕ) → String Global → Bool
is_text None name = false
is_text (Some said) name = bytes_eq said (string_bytes name)

-- whether there is a number, and it is this one
abbrev pub is_number : Option ℤ → ℕ → Bool
is_number None n = false
is_number (Some said) n = int_eq said (pos n)

-- whether a value is this name
abbrev pub is_name : Data → String Global → Bool
is_name d name = is_text (as_str d) name

-- whether one of these items is this name
abbrev pub has_name : Items → String Global → Bool
has_name no_items name = false
has_name (item d ds) name = is_name d name || has_name ds name

-- whether there is a list, and its items are these names
abbrev pub are_names : Option Items → List (String Global) → Bool
are_names None names = false
are_names (Some items) names = agree_all is_name items names

-- whether an entry has this name
abbrev pub is_named : Data → String Global → Bool
is_named entry name = is_text (text_at (codes "name") entry) name

-- whether what is said of a train's route is this route
abbrev pub is_route : Option Data → List (String Global) → Bool
is_route said route = are_names (option_and_then as_array said) route

-- whether what is said is true: not, if nothing is said
abbrev pub says_yes : Option Data → Bool
says_yes said = unwrap_or (option_and_then as_bool said) false

-- whether it exits exactly if this says so
abbrev pub is_exit : Option Data → Bool → Bool
is_exit said exit = if exit then says_yes said else not (says_yes said)

-- whether there is a text, and it names this place of a route
abbrev pub names_place : Option (List ℕ) → List (String Global) → ℕ → Bool
names_place None route place = false
names_place (Some said) route place = is_place said route place

-- whether a train that says this of its start starts at this place of its route: at the place that it names, or else at the first
abbrev pub starts_at : Option (List ℕ) → List (String Global) → ℕ → Bool
starts_at None route place = place == 0
starts_at (Some said) route place = is_place said route place

-- whether there are a text and a train, and the one is the other's name
abbrev pub names_train : Option (List ℕ) → Option (String Global) → Bool
names_train said None = false
names_train said (Some train) = is_text said train

-- whether a table that says this itself is due after as many moves: the first, which says nothing, at once
abbrev pub is_due : Option Data → ℕ → Bool
is_due None after = after == 0
is_due (Some entry) after = is_number (number_at (codes "after") entry) after
