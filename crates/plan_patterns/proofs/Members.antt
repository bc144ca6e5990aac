-- The members of a map that was changed, and the items of a list.
use Rattle.std.proofs.Common.{◌≡◌, ℕ, ◌+◌, arith, List, [], ◌∷◌, ◌++◌, map, Ordering, Less, Equal, Greater, nat_cmp, is_eq, string_bytes, String, Global, Option, Some, None, option_map, BTreeMap, MutBor, refl, sym, ap, ◌∙◌, inl, inr}
use Rattle.std.proofs.lemmas.List.FromFn.{map-range_with_len_more}
use mathlib.Core.List.{reverse_aux}
use Rattle.std.specs.Prelude.{reverse}
use Rattle.std.proofs.lemmas.Bool.{cases_Bool}
use Rattle.std.proofs.lemmas.Option.{none-some}
use Rattle.std.specs.Prelude.{if◌then◌else◌}
use Rattle.std.specs.Cmp.Lexicographic.{slice_cmp}
use Rattle.std.specs.List.{AllZip, flat_map, range_with_len}
use Rattle.std.specs.Option.{option_copied_mut}
use Rattle.std.specs.BTreeMap.{get_by, insert_entry, is_at}
use Rattle.std.specs.Map.{remove_entry, set_value}
use Rattle.std.specs.Ordering.{match_ordering}
use Rattle.std.specs.String.{string_cmp}
use Rattle.toml.specs.Data.{Data, Members, no_members, member, get_member, item}
use Rattle.toml.specs.View.{items_of, items_view, members_view, view}
use Rattle.toml.specs.declared.value.Value.{Value}
use Rattle.toml.proofs.Views.{Entry, at_text, view-lookup}
use Rattle.plan_patterns.specs.Numbered.{numbered, numbered_items}
use Rattle.plan_patterns.specs.Parts.{listed, put, replace, without}

pub listed_view : (vs : List Value) → listed (items_view vs) ≡ map view vs
listed_view [] = refl
listed_view (v ∷ vs) = ap (λ ds. view v ∷ ds) (listed_view vs)

chosen : (o : Ordering) (a b c : List Entry) → members_view (match_ordering o a b c) ≡ match_ordering o (members_view a) (members_view b) (members_view c)
chosen Less a b c = refl
chosen Equal a b c = refl
chosen Greater a b c = refl

pub put_view : (es : List Entry) (k : String Global) (v : Value) → members_view (insert_entry string_cmp es k v) ≡ put (string_bytes k) (view v) (members_view es)
put_view [] k v = refl
put_view (e ∷ es) k v = chosen (string_cmp k e.0) _ _ _ ∙ rw (put_view es k v)

pub replace_view : (k : List ℕ) (es : List Entry) (w : Value) → members_view (set_value (is_at (at_text k)) es w) ≡ replace k (view w) (members_view es)
replace_view k [] w = refl
replace_view k (e ∷ es) w =
    elim (cases_Bool (is_eq (at_text k e.0))) [
      | inl same ↦ rw same
      | inr other ↦ rw (other, replace_view k es w)
    ]

pub without_view : (k : List ℕ) (es : List Entry) → members_view (remove_entry (is_at (at_text k)) es) ≡ without k (members_view es)
without_view k [] = refl
without_view k (e ∷ es) =
    elim (cases_Bool (is_eq (at_text k e.0))) [
      | inl same ↦ rw same
      | inr other ↦ rw (other, without_view k es)
    ]

-- items with numbers, as a list
pub numbered_view : (number : List ℕ) (vs : List Value) → numbered_items number (items_view vs) ≡ items_of (map (λ v. numbered number (view v)) vs)
numbered_view number [] = refl
numbered_view number (v ∷ vs) = ap (item (numbered number (view v))) (numbered_view number vs)

-- what some data stand for, where they are values
pub flat_view : {X : Type 0} (f : Data → List X) (vs : List Value) → flat_map f (map view vs) ≡ flat_map (λ v. f (view v)) vs
flat_view f [] = refl
flat_view f (v ∷ vs) = ap (λ xs. f (view v) ++ xs) (flat_view f vs)

pub map_view : {X : Type 0} (f : Data → X) (vs : List Value) → map f (map view vs) ≡ map (λ v. f (view v)) vs
map_view f [] = refl
map_view f (v ∷ vs) = ap (λ xs. f (view v) ∷ xs) (map_view f vs)

-- where a key isn't, nothing is replaced
pub replace_missing : (k : List ℕ) (d : Data) (ms : Members) → get_member k ms ≡ None → replace k d ms ≡ ms
replace_missing k d no_members none = refl
replace_missing k d (member l e ms) none =
    elim (slice_cmp nat_cmp k l) as (λ o. match_ordering o (get_member k ms) (Some e) (get_member k ms) ≡ None → (if is_eq o then member l d ms else member l e (replace k d ms)) ≡ member l e ms) [
      | Less ↦ λ h. ap (member l e) (replace_missing k d ms h)
      | Equal ↦ λ h. absurd (none-some e (sym h))
      | Greater ↦ λ h. ap (member l e) (replace_missing k d ms h)
    ] none

-- a key that the map didn't find is none of its members
pub missing : (k : List ℕ) (m : BTreeMap (String Global) Value) (r : Option (MutBor Value)) → r ≡ None → option_copied_mut r ≡ get_by (at_text k) m → get_member k (members_view m.entries) ≡ None
missing k m r is value = sym (view-lookup k m.entries) ∙ ap (option_map view) (sym (rw is at value))

-- a copy of entries stands for the same members
pub cloned_view : (es fs : List Entry) → AllZip (λ (e f : Entry). (string_bytes f.0 ≡ string_bytes e.0) × (view f.1 ≡ view e.1)) es fs → members_view fs ≡ members_view es
cloned_view [] [] same = refl
cloned_view [] (f ∷ fs) same = absurd same
cloned_view (e ∷ es) [] same = absurd same
cloned_view (e ∷ es) (f ∷ fs) same = rw (same.0.0, same.0.1, cloned_view es fs same.1)

reverse_onto_view : (vs ws : List Value) → map view (reverse_aux vs ws) ≡ reverse_aux (map view vs) (map view ws)
reverse_onto_view [] ws = refl
reverse_onto_view (v ∷ vs) ws = reverse_onto_view vs (v ∷ ws)

-- values from the end to the beginning
pub reverse_view : (vs : List Value) → map view (reverse vs) ≡ reverse (map view vs)
reverse_view vs = reverse_onto_view vs []

-- what items stand for, where they are values
pub listed_flat : {X : Type 0} (f : Data → List X) (vs : List Value) → flat_map f (listed (items_view vs)) ≡ flat_map (λ v. f (view v)) vs
listed_flat f vs = ap (flat_map f) (listed_view vs) ∙ flat_view f vs

pub listed_map : {X : Type 0} (f : Data → X) (vs : List Value) → map f (listed (items_view vs)) ≡ map (λ v. f (view v)) vs
listed_map f vs = ap (map f) (listed_view vs) ∙ map_view f vs

map_last : (vs : List Value) (v : Value) → map view (vs ++ v ∷ []) ≡ map view vs ++ view v ∷ []
map_last [] v = refl
map_last (w ∷ vs) v = ap (λ ds. view w ∷ ds) (map_last vs v)

-- one more value, for the next number
pub one_more : (f : ℕ → Data) (k : ℕ) (all more : List Value) (v : Value) → more ≡ all ++ v ∷ []
    → map view all ≡ map f (range_with_len 1 k) → view v ≡ f (k + 1) → map view more ≡ map f (range_with_len 1 (k + 1))
one_more f k all more v pushed sofar here =
    let next : 1 + k ≡ k + 1 = omega arith in
    ap (map view) pushed ∙ map_last all v ∙ ap (λ ds. ds ++ view v ∷ []) sofar ∙ ap (λ d. map f (range_with_len 1 k) ++ d ∷ []) here
    ∙ sym (map-range_with_len_more f 1 k (k + 1) next)
