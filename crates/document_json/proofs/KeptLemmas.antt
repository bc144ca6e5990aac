-- The document of a text is that of its value, and what a text without a value is refused for.
use Rattle.std.proofs.Common.{◌≡◌, ◌⊎◌, inl, inr, ℕ, List, Some, None, Result, Err, ap, sym, ◌∙◌}
use Rattle.json.specs.Json.{Json}
use Rattle.rail_model.specs.Turns.{in_turn}
use Rattle.document_shapes.specs.Kept.{kept}
use Rattle.document_shapes.specs.declared.refused.ShapeRefused.{ShapeRefused}
use Rattle.document_shapes.specs.declared.refused.ShapeRefused.TheVariants as shape
use Rattle.document_shapes.proofs.ReadingLemmas.{members-kept, members-of-none}
use Rattle.document_json.specs.Kept.{doc_in}
use Rattle.document_json.specs.Reading.{doc_of, doc_from}
use Rattle.document_json.specs.Tables.{refused_as}
use Rattle.document_json.specs.declared.refused.DocRefused.{DocRefused}
use Rattle.document_json.specs.declared.refused.DocRefused.TheVariants.{Memory, Shape}

pub doc-kept : (bytes : List ℕ) (j : Json) → kept bytes ≡ Some j → doc_of bytes ≡ doc_in j
unfolding doc_of
doc-kept bytes j h = ap (λ r. in_turn (refused_as Shape r) doc_from) (members-kept bytes j h)

doc-of-none : (bytes : List ℕ) → kept bytes ≡ None → doc_of bytes ≡ Err (Shape shape.NotJson)
unfolding doc_of
doc-of-none bytes h = ap (λ r. in_turn (refused_as Shape r) doc_from) (members-of-none bytes h)

-- the refusal of a text without a value
module _ (bytes : List ℕ) (e : ShapeRefused) (x : DocRefused) (only : (e ≡ shape.Memory) ⊎ (e ≡ shape.NotJson)) (none : e ≡ shape.NotJson → kept bytes ≡ None) (memory : e ≡ shape.Memory → x ≡ Memory) where
  pub refused-none : (e ≡ shape.NotJson → x ≡ Shape shape.NotJson) → (x ≡ Memory) ⊎ (doc_of bytes ≡ Err x)
  refused-none json = elim only [
    | inl is ↦ inl (memory is)
    | inr is ↦ inr (doc-of-none bytes (none is) ∙ ap Err (sym (json is)))
  ]

  pub value-none : {A : Type 0} → ◌≡◌ {A = Result A DocRefused} (Err x) (Err Memory) ⊎ (kept bytes ≡ None)
  value-none = elim only [
    | inl is ↦ inl (ap Err (memory is))
    | inr is ↦ inr (none is)
  ]
