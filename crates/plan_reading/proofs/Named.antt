-- Entries and names among values: how many there are, the one at an index, and the first of a name.
use Rattle.std.proofs.Common.{◌≡◌, ◌<◌, ◌≤◌, ℕ, List, [], ◌∷◌, ◌||◌, String, Global, Some, None, get_or, length, refl, inl, inr, ap, ◌∙◌, suc}
use Rattle.std.specs.Prelude.{Option, option_map, slice_get, IfSome, MatchOption}
use Rattle.std.specs.Borrow.{Bor}
use Rattle.std.specs.List.{find, list_any, HoldsAt}
use Rattle.std.proofs.lemmas.Bool.{cases_Bool}
use Rattle.std.proofs.lemmas.Option.{slice_get_read}
use Rattle.toml.specs.Data.{get_item}
use Rattle.toml.specs.View.{view, items_view}
use Rattle.toml.specs.declared.value.Value.{Value}
use Rattle.toml.proofs.Views.{get_item_within, get_item_past}
use Rattle.plan_reading.specs.Agreeing.{has_name, is_name, is_named, seen}
use Rattle.plan_reading.specs.Said.{count_of, first_named}

pub item_is : (vs : List Value) (i : ℕ) (r : Option (Bor Value)) → IfSome r (λ x. x.now ≡ get_or vs i x.now)
    → MatchOption r (length vs ≤ i) (λ x. (i < length vs) × HoldsAt (λ y. x.now ≡ y) vs i) → seen r ≡ get_item i (items_view vs)
item_is vs i None here past = get_item_past vs i past
item_is vs i (Some x) here within = ap (λ v. Some (view v)) here ∙ get_item_within vs i x.now within.0

pub count_is : (vs : List Value) → count_of (items_view vs) ≡ length vs
count_is [] = refl
count_is (v ∷ vs) = ap suc (count_is vs)

-- what a read of a list at an index gave is its element there
pub read_is : {X : Type 0} (xs : List X) (i : ℕ) (read x : X) → i < length xs → read ≡ get_or xs i read → slice_get xs i ≡ Some x → read ≡ x
read_is xs i read x within is at = let there : slice_get xs i ≡ Some read = slice_get_read xs (length xs) i read refl within is in cc

pub first_is : (name : String Global) (vs : List Value) → option_map view (find (λ v. is_named (view v) name) vs) ≡ first_named (items_view vs) name
first_is name [] = refl
first_is name (v ∷ vs) = elim (cases_Bool (is_named (view v) name)) [ inl is ↦ rw is refl | inr is ↦ rw is (first_is name vs) ]

pub any_is : (vs : List Value) (name : String Global) → list_any (λ v. is_name (view v) name) vs ≡ has_name (items_view vs) name
any_is [] name = refl
any_is (v ∷ vs) name = ap (λ rest. is_name (view v) name || rest) (any_is vs name)
