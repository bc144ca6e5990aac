-- The tokens of a list, written in turn.
use Rattle.std.proofs.Common.{◌≡◌, ℕ, ◌+◌, ◌<◌, ◌≤◌, List, [], ◌∷◌, ◌++◌, length, take, get_or, take_all, All, sym, ap, ◌∙◌, subst}
use Rattle.std.specs.List.{flat_map}
use Rattle.std.proofs.lemmas.List.{take_more, flat_map_more}
use Rattle.std.proofs.lemmas.List.Elements.{All-more}
use Rattle.json.specs.Token.{Token, begin_array, end_array}
use Rattle.serde_json.specs.Data.{Data}
use Rattle.document_shapes.specs.Added.{AddsTokens, tokens_of}
use Rattle.document_shapes.specs.Written.{list_data}
use Rattle.document_shapes.specs.declared.token_text.TokenText.{TokenText}
use Rattle.document_shapes.proofs.AddedLemmas.{adds-more, list-tokens}

-- The list is begun, with the items below i.
pub record WrittenTo {X : Type 0} (put : X → Data) (P : X → Type 0) (xs : List X) (old new : TokenText) (i : ℕ) : Type 0 where
  pub tokens : AddsTokens (begin_array ∷ flat_map (λ x. tokens_of (put x)) (take i xs)) old new
  pub in_range : All P (take i xs)

module _ {X : Type 0} (put : X → Data) (P : X → Type 0) (xs : List X) where
  pub write_item : (old mid new : TokenText) (i : ℕ) (x : X) → i < length xs → x ≡ get_or xs i x → AddsTokens (tokens_of (put x)) mid new → P x
      → WrittenTo put P xs old mid i → WrittenTo put P xs old new (i + 1)
  write_item old mid new i x lt item added in_range h =
      let f : X → List Token = λ y. tokens_of (put y) in
      let all = flat_map_more f (begin_array ∷ []) (take i xs) x ∙ ap (λ ys. begin_array ∷ flat_map f (take i xs ++ ys)) (ap (λ y. y ∷ []) item) ∙ ap (λ ys. begin_array ∷ flat_map f ys) (sym (take_more xs i x lt)) in
      record {
        tokens = subst (λ ts. AddsTokens ts old new) all (adds-more (begin_array ∷ flat_map f (take i xs)) (tokens_of (put x)) old mid new h.tokens added);
        in_range = All-more P xs i x lt h.in_range (subst P item in_range);
      }

  pub write_end : (old mid new : TokenText) (i : ℕ) → length xs ≤ i → AddsTokens (end_array ∷ []) mid new → WrittenTo put P xs old mid i
      → AddsTokens (tokens_of (list_data put xs)) old new
  write_end old mid new i past wrote h =
      let all = ap (λ ys. (begin_array ∷ flat_map (λ x. tokens_of (put x)) ys) ++ end_array ∷ []) (take_all i xs past) ∙ list-tokens put xs in
      subst (λ ts. AddsTokens ts old new) all (adds-more (begin_array ∷ flat_map (λ x. tokens_of (put x)) (take i xs)) (end_array ∷ []) old mid new h.tokens wrote)
