-- The value of a text, item by item and member by member, as the value of `serde_json` that it stands for.
use Rattle.std.proofs.Common.{◌≡◌, ◌+◌, ◌<◌, ℕ, List, [], ◌∷◌, ◌++◌, length, drop, get_or, Option, Some, None, option_map, Ok, Err, Bor, refl, sym, ap, ◌∙◌}
use Rattle.std.specs.Prelude.{ok_or, option_and_then}
use Rattle.std.proofs.lemmas.List.{drop_more}
use Rattle.json.specs.Value as kept
use Rattle.json.specs.declared.value.Value.{Value as Kept}
use Rattle.serde_json.specs.Data.{Items, no_items, item, Members, put}
use Rattle.serde_json.specs.Read.{of_json, of_items, of_members}
use Rattle.serde_json.specs.View.{view, items_view}
use Rattle.serde_json.specs.declared.value.Value.{Value}
use Rattle.document_shapes.specs.declared.refused.ShapeRefused.{ShapeRefused}
use Rattle.document_shapes.specs.declared.refused.ShapeRefused.TheVariants.{NotJson}

-- ---- a value, or that a number in it is out of range

pub is-read : {A : Type 0} (o : Option A) (a : A) → ok_or o NotJson ≡ Ok a → o ≡ Some a
is-read None a h = absurd cc
is-read (Some b) a h = let same : b ≡ a = cc in ap Some same

-- where a part has no value, the whole has none
pub refused-with : {A B : Type 0} (part : Option A) (whole : Option B) (e : ShapeRefused) → ok_or part NotJson ≡ Err e → (part ≡ None → whole ≡ None) → ok_or whole NotJson ≡ Err e
refused-with None whole e h none = let same : NotJson ≡ e = cc in ap (λ o. ok_or o NotJson) (none refl) ∙ ap Err same
refused-with (Some a) whole e h none = absurd cc

-- what is left of a list begins with the item at hand
left : {X : Type 0} (xs : List X) (i : ℕ) (x : X) → i < length xs → x ≡ get_or xs i x → drop i xs ≡ x ∷ drop (i + 1) xs
left xs i x lt is = drop_more xs i x lt ∙ ap (λ y. y ∷ drop (i + 1) xs) (sym is)

-- ---- items

-- the items so far, and then what is made of the rest
abbrev pub items_onto : List Value → Option Items → Option Items
items_onto [] rest = rest
items_onto (v ∷ vs) rest = option_map (item (view v)) (items_onto vs rest)

onto-push : (vs : List Value) (v : Value) (rest : Option Items) → items_onto (vs ++ v ∷ []) rest ≡ items_onto vs (option_map (item (view v)) rest)
onto-push [] v rest = refl
onto-push (w ∷ vs) v rest = ap (option_map (item (view w))) (onto-push vs v rest)

onto-none : (vs : List Value) → items_onto vs None ≡ None
onto-none [] = refl
onto-none (v ∷ vs) = ap (option_map (item (view v))) (onto-none vs)

pub onto-end : (vs : List Value) → items_onto vs (Some no_items) ≡ Some (items_view vs)
onto-end [] = refl
onto-end (v ∷ vs) = ap (option_map (item (view v))) (onto-end vs)

module _ {A : Type 0} (xs : List (Kept A)) (i : ℕ) (x : Kept A) (lt : i < length xs) (is : x ≡ get_or xs i x) (vs : List Value) where
  abbrev rest : Option Items
  rest = of_items (kept.items_view (drop (i + 1) xs))

  here : items_onto vs (of_items (kept.items_view (drop i xs))) ≡ items_onto vs (option_and_then (λ d. option_map (item d) rest) (of_json (kept.value_view x)))
  here = ap (λ ys. items_onto vs (of_items (kept.items_view ys))) (left xs i x lt is)

  pub one_more_item : (v : Value) → of_json (kept.value_view x) ≡ Some (view v) → items_onto vs (of_items (kept.items_view (drop i xs))) ≡ items_onto (vs ++ v ∷ []) rest
  one_more_item v e = here ∙ ap (λ o. items_onto vs (option_and_then (λ d. option_map (item d) rest) o)) e ∙ sym (onto-push vs v rest)

  pub no_item : of_json (kept.value_view x) ≡ None → items_onto vs (of_items (kept.items_view (drop i xs))) ≡ None
  no_item e = here ∙ ap (λ o. items_onto vs (option_and_then (λ d. option_map (item d) rest) o)) e ∙ onto-none vs

-- ---- members

module _ {A : Type 0} (ms : List (Bor (List ℕ) × Kept A)) (i : ℕ) (m : Bor (List ℕ) × Kept A) (lt : i < length ms) (is : m ≡ get_or ms i m) (found : Members) where
  abbrev rest_onto : Members → Option Members
  rest_onto = of_members (kept.members_view (drop (i + 1) ms))

  member_here : of_members (kept.members_view (drop i ms)) found ≡ option_and_then (λ d. rest_onto (put m.0.now d found)) (of_json (kept.value_view m.1))
  member_here = ap (λ ys. of_members (kept.members_view ys) found) (left ms i m lt is)

  pub one_more_member : (v : Value) → of_json (kept.value_view m.1) ≡ Some (view v) → of_members (kept.members_view (drop i ms)) found ≡ rest_onto (put m.0.now (view v) found)
  one_more_member v e = member_here ∙ ap (option_and_then (λ d. rest_onto (put m.0.now d found))) e
