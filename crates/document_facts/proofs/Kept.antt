-- A section that isn't gone is there.
use Rattle.std.proofs.Common.{ℕ, inl, inr, length, arith}
use Rattle.std.proofs.lemmas.Bool.{cases_lt}
use Rattle.rail_model.specs.Table.{section}
use Rattle.document_json.specs.Doc.{Doc, table_at}
use Rattle.document_facts.specs.Former.{HoldsSince, IsGone, IsThere, KeepsSections}
use Rattle.document_facts.specs.declared.fact.Fact.{Fact}
use Rattle.document_facts.specs.declared.fact.Fact.TheVariants.{SectionLost}
use Rattle.document_facts.proofs.Contained.{contained}

there_if_not_gone : (D F : Doc) (t s : ℕ) → (IsGone D F t s → ⊥) → IsThere D t (section (table_at F t) s)
there_if_not_gone D F t s kept = elim (cases_lt t (length D.tables)) [
  | inl lt ↦ elim (contained (table_at D t).sections (section (table_at F t) s)) [
    | inl is ↦ (lt, is)
    | inr none ↦ absurd (kept (λ there. none there.1))
  ]
  | inr past ↦ absurd (kept (λ there. let lt = there.0 in omega (arith, lt, past)))
]

pub keeps_all : (D F : Doc) → ((f : Fact) → HoldsSince D F f → ⊥) → KeepsSections D F
keeps_all D F none = λ t s is. there_if_not_gone D F t s (λ gone. none (SectionLost t s) (is, gone))
