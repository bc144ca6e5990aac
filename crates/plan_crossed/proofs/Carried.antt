-- Lists that are made item by item, of values and of the members of a table.
use Rattle.std.proofs.Common.{◌≡◌, ◌∙◌, sym, ap, refl, ℕ, ◌+◌, ◌<◌, ◌≤◌, List, [], ◌∷◌, ◌++◌, map, length, take, Bool, not, cond, get_or, nat_lt, Option, Some, None, String, Global, string_bytes}
use Rattle.std.specs.Prelude.{bytes_eq, position, unwrap_or, option_map, slice_get, IfSome, MatchOption}
use Rattle.std.specs.Borrow.{Bor}
use Rattle.std.specs.List.{HoldsAt, list_all, position_or_len}
use Rattle.std.proofs.lemmas.List.{length-map, map-append, take_all, take_more}
use Rattle.std.proofs.lemmas.List.Folds.{list_all-map}
use Rattle.std.proofs.lemmas.Option.{slice_get-map, slice_get_past, slice_get_read}
use Rattle.toml.specs.Data.{Data}
use Rattle.toml.specs.View.{view}
use Rattle.toml.specs.declared.value.Value.{Value}
use Rattle.plan_patterns.proofs.Members.{map_view}
use Rattle.plan_crossed.specs.Said.{number_among}

-- what is made of all values is what is made of the items that they stand for
pub made_of : {X : Type 0} (f : Data → X) (vs : List Value) (k : ℕ) (found : List X) → length vs ≤ k
    → found ≡ map (λ v. f (view v)) (take k vs) → found ≡ map f (map view vs)
made_of f vs k found all is = is ∙ ap (map (λ v. f (view v))) (take_all k vs all) ∙ sym (map_view f vs)

-- what is made of one value more
pub made_more : {X : Type 0} (f : Value → X) (vs : List Value) (k : ℕ) (v : Value) (x : X) (found new : List X) → k < length vs
    → v ≡ get_or vs k v → found ≡ map f (take k vs) → x ≡ f v → new ≡ found ++ x ∷ [] → new ≡ map f (take (k + 1) vs)
made_more f vs k v x found new within read was is pushed =
    pushed
    ∙ (λ i. was i ++ is i ∷ [])
    ∙ sym (map-append f (take k vs) (v ∷ []))
    ∙ sym (ap (map f) (take_more vs k v within ∙ (λ i. take k vs ++ sym read i ∷ [])))

-- a list has as many items as there are values, and a test holds of all items if it does of all values
pub length_view : (vs : List Value) → length (map view vs) ≡ length vs
length_view vs = length-map vs view

pub all_view : (p : Data → Bool) (vs : List Value) → list_all p (map view vs) ≡ list_all (λ v. p (view v)) vs
all_view p vs = list_all-map p view vs

-- what a read of values gave stands for the item there
pub item_is : (vs : List Value) (i : ℕ) (r : Option (Bor Value)) → IfSome r (λ x. x.now ≡ get_or vs i x.now)
    → MatchOption r (length vs ≤ i) (λ x. (i < length vs) × HoldsAt (λ y. x.now ≡ y) vs i)
    → option_map (λ v. view v.now) r ≡ slice_get (map view vs) i
item_is vs i None here past = sym (slice_get-map view vs i ∙ ap (option_map view) (slice_get_past vs i past))
item_is vs i (Some x) here within =
    sym (slice_get-map view vs i ∙ ap (option_map view) (slice_get_read vs (length vs) i x.now refl within.0 here))

position_named : (p : List ℕ → Bool) (names : List (String Global))
    → position_or_len p (map string_bytes names) ≡ position_or_len (λ known. p (string_bytes known)) names
position_named p [] = refl
position_named p (known ∷ names) = ap (λ n. cond (not (p (string_bytes known))) (1 + n) 0) (position_named p names)

-- the number of a way among texts is that among their bytes
pub number_named : (name : List ℕ) (names : List (String Global))
    → number_among name (map string_bytes names) ≡ unwrap_or (position (λ known. bytes_eq name (string_bytes known)) names) (length names)
number_named name names =
    let place = position_named (bytes_eq name) names in
    let many = length-map names string_bytes in
    (λ i. unwrap_or (cond (nat_lt (place i) (many i)) (Some (place i)) None) (many i))
