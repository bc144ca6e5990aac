-- `reading` and `kept` where the bytes are a text, and where they are refused; and the members by either.
use Rattle.std.proofs.Common.{◌≡◌, ℕ, List, true, false, Some, None, cond, refl, ◌∙◌, IsUtf8, Err, sym, ap}
use Rattle.std.specs.Prelude.{ok_or, option_and_then}
use Rattle.std.specs.Str.{is_utf8}
use Rattle.std.proofs.lemmas.Str.{IsUtf8-from_is_utf8, is_utf8-from_IsUtf8}
use Rattle.serde_json.specs.Data.{Data}
use Rattle.serde_json.specs.Read.{read, of_json}
use Rattle.json.specs.Json.{Json}
use Rattle.rail_model.specs.Turns.{in_turn}
use Rattle.document_shapes.specs.Kept.{in_text, kept, members_in}
use Rattle.document_shapes.specs.Raw.{doc_members, members_of}
use Rattle.document_shapes.specs.Reading.{reading}
use Rattle.document_shapes.specs.declared.refused.ShapeRefused.TheVariants.{NotJson}

pub reading-text : (bs : List ℕ) → IsUtf8 bs → reading bs ≡ read bs
unfolding reading
reading-text bs text = rw (is_utf8-from_IsUtf8 bs text) refl

-- the clauses of `from_slice`
pub reading-ok : (bs : List ℕ) (d : Data) → IsUtf8 bs × (read bs ≡ Some d) → reading bs ≡ Some d
reading-ok bs d h = reading-text bs h.0 ∙ h.1

pub reading-refused : (bs : List ℕ) → (IsUtf8 bs → read bs ≡ None) → reading bs ≡ None
unfolding reading
reading-refused bs h = elim (is_utf8 bs) as (λ b. is_utf8 bs ≡ b → cond b (read bs) None ≡ None) [
  | true ↦ λ e. h (IsUtf8-from_is_utf8 bs e)
  | false ↦ λ e. refl
] refl

pub kept-text : (bs : List ℕ) (text : List ℕ) → (text ≡ bs) × IsUtf8 bs → kept bs ≡ in_text text
unfolding kept
kept-text bs text h = rw (is_utf8-from_IsUtf8 bs h.1) (ap in_text (sym h.0))

pub kept-other : (bs : List ℕ) → (IsUtf8 bs → ⊥) → kept bs ≡ None
unfolding kept
kept-other bs h = elim (is_utf8 bs) as (λ b. is_utf8 bs ≡ b → cond b (in_text bs) None ≡ None) [
  | true ↦ λ e. absurd (h (IsUtf8-from_is_utf8 bs e))
  | false ↦ λ e. refl
] refl

reading-kept : (bs : List ℕ) → reading bs ≡ option_and_then of_json (kept bs)
unfolding reading kept
reading-kept bs = elim (is_utf8 bs) as (λ b. cond b (read bs) None ≡ option_and_then of_json (cond b (in_text bs) None)) [
  | true ↦ refl
  | false ↦ refl
]

-- the members of a text are those of its value
pub members-kept : (bs : List ℕ) (j : Json) → kept bs ≡ Some j → members_of bs ≡ members_in j
members-kept bs j h = ap (λ o. in_turn (ok_or o NotJson) doc_members) (reading-kept bs ∙ ap (option_and_then of_json) h)

-- a text without a value has none
pub members-of-none : (bs : List ℕ) → kept bs ≡ None → members_of bs ≡ Err NotJson
members-of-none bs h = ap (λ o. in_turn (ok_or o NotJson) doc_members) (reading-kept bs ∙ ap (option_and_then of_json) h)
