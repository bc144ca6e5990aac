-- Texts read as the members of a document: by all their tokens, and as the plain data that they were written of.
use Rattle.std.proofs.Common.{◌≡◌, ◌≤◌, ℕ, List, [], ◌∷◌, ◌++◌, Option, Some, None, option_map, Result, Ok, IsUtf8, refl, sym, ap, ◌∙◌, arith, append-nil}
use Rattle.std.specs.Prelude.{option_and_then, ok_or, unwrap_or}
use Rattle.std.proofs.lemmas.Str.{IsUtf8-append}
use Rattle.json.specs.Json as json
use Rattle.json.specs.Lex.{tokens}
use Rattle.json.specs.Tree as tree
use Rattle.json.proofs.Printed.Trees.{ArePrintable-json_tokens, value-json_tokens}
use Rattle.json.proofs.Printed.Utf8.{IsUtf8-are_ascii}
use Rattle.rail_model.specs.Turns.{in_turn}
use Rattle.serde_json.specs.Data.{Data}
use Rattle.serde_json.specs.Read.{of_json, max_depth, read}
use Rattle.serde_json.specs.Written.{outline, compact_text}
use Rattle.serde_json.proofs.Texts.{print-outline}
use Rattle.document_shapes.specs.Raw.{DocMembers, doc_members, members_of}
use Rattle.document_shapes.specs.Reading.{reading}
use Rattle.document_shapes.specs.Taken.{Takes}
use Rattle.document_shapes.specs.Written.{doc_data, text_of}
use Rattle.document_shapes.specs.declared.refused.ShapeRefused.{ShapeRefused}
use Rattle.document_shapes.specs.declared.refused.ShapeRefused.TheVariants.{NotJson}
use Rattle.document_shapes.proofs.PlainLemmas.{IsPlain}
use Rattle.document_shapes.proofs.ReadingLemmas.{reading-text}
use Rattle.document_shapes.proofs.Trailing.{tokens-newline}

module _ (k : ℕ) (d : Data) (h : IsPlain k d) where
  abbrev text : List ℕ
  text = compact_text d

  -- the newline adds no token
  read-line : k ≤ max_depth → read (text ++ 10 ∷ []) ≡ Some d
  read-line deep =
      let j = outline d in
      let same = ap (λ t. tokens (t ++ 10 ∷ [])) (sym (print-outline d)) ∙ tokens-newline (tree.json_tokens j) (ArePrintable-json_tokens j h.numbers) ∙ sym (append-nil (tree.json_tokens j)) in
      let value = value-json_tokens j max_depth [] (let a = h.deep in omega arith) in
      ap (λ ts. option_and_then of_json (option_and_then (λ p. json.if_last p.0 p.1) (json.value max_depth ts))) same
      ∙ ap (λ o. option_and_then of_json (option_and_then (λ p. json.if_last p.0 p.1) o)) value ∙ h.same

  reading-line : k ≤ max_depth → reading (text ++ 10 ∷ []) ≡ Some d
  reading-line deep = reading-text (text ++ 10 ∷ []) (IsUtf8-append text (10 ∷ []) h.utf8 (IsUtf8-are_ascii (10 ∷ []) refl)) ∙ read-line deep

-- the text of a document's members
pub members-text : (m : DocMembers) → IsPlain 7 (doc_data m) → members_of (text_of m) ≡ doc_members (doc_data m)
members-text m plain = ap (λ o. in_turn (ok_or o NotJson) doc_members) (reading-line 7 (doc_data m) plain (omega arith))

-- ---- the members, read of all the tokens of a text

-- a text whose tokens are all taken
pub text-read : {X : Type 0} (see : X → DocMembers) (bytes : List ℕ) (x : X) → Takes (λ d y. doc_members d ≡ Ok (see y)) max_depth (tokens bytes) x [] → option_map doc_members (read bytes) ≡ Some (Ok (see x))
text-read see bytes x h =
    ap (λ o. option_map doc_members (option_and_then of_json (option_and_then (λ p. json.if_last p.0 p.1) o))) h.2 ∙ ap (option_map doc_members) h.3 ∙ ap Some h.4

same-answer : (o : Option Data) (r : Result DocMembers ShapeRefused) → option_map doc_members o ≡ Some r → in_turn (ok_or o NotJson) doc_members ≡ r
same-answer None r h = absurd cc
same-answer (Some d) r h = ap (λ x. unwrap_or x r) h

pub text-members : (bytes : List ℕ) (r : Result DocMembers ShapeRefused) → IsUtf8 bytes → option_map doc_members (read bytes) ≡ Some r → members_of bytes ≡ r
text-members bytes r utf8 h = ap (λ o. in_turn (ok_or o NotJson) doc_members) (reading-text bytes utf8) ∙ same-answer (read bytes) r h
