-- What deriving sections from rings comes to.
use Rattle.std.specs.Prelude.{◌≡◌, ◌⊎◌, ℕ, ◌<◌, ◌≤◌, List, length, map}
use Rattle.rail_model.specs.Table.{Table}
use Rattle.rail_model.specs.State.{Legal}
use Rattle.rail_model.specs.Certificate.{Tree}
use Rattle.ring_sections.specs.Ring.{rings}
use Rattle.ring_sections.specs.Marking.{ring_table}
use Rattle.document_json.specs.Doc.{Doc, table_at}
use Rattle.document_json.specs.Replaced.{replaced}
use Rattle.ats_answers.specs.declared.failure.Failure.{Failure}
use Rattle.ats_answers.specs.declared.failure.Failure.TheVariants.{Many}
use Rattle.ats_answers.specs.Certificates.{IsAcceptedText}
use Rattle.ats_answers.specs.Making.{table_in, trees_in, HaveMade, FailsToMake}
use Rattle.ats_answers.specs.Starting.{IsBadStart}

-- the table with the sections of its rings of at most `most` trains in place of its own; its connections stay
abbrev pub derived_table : ℕ → Table → Table
derived_table most T = record (ring_table T.missions (rings T.missions most)) { connections = T.connections }

-- each table of the document, with the sections of its rings
abbrev pub derived : Doc → ℕ → List Table
derived D most = map (λ t. derived_table most t.table) D.tables

-- The table has at most 64 such rings.
abbrev pub HasFewRings : ℕ → Table → Type 0
HasFewRings most T = length (rings T.missions most) ≤ 64

-- Each table of the document has at most 64 such rings.
abbrev pub HaveFewRings : Doc → ℕ → Type 0
HaveFewRings D most = (t : ℕ) → t < length D.tables → HasFewRings most (table_at D t)

-- The bytes are the document with the sections of its rings, under which its start is legal, and certificates made of them, which its
-- tables accept.
pub record IsDerived (D : Doc) (most budget : ℕ) (bytes : List ℕ) : Type 0 where
  pub few : HaveFewRings D most
  pub start : Legal (table_in (derived D most) 0) D.start
  pub parts : List (Table × Tree)
  pub made : HaveMade (derived D most) budget parts
  pub text : IsAcceptedText (replaced D parts) (trees_in parts) bytes

-- The table with this number has more than 64 rings, which are not counted any further.
abbrev pub HasTooManyRings : ℕ → Table → ℕ → Failure → Type 0
HasTooManyRings most T t e = (e ≡ Many t 65) × (64 < length (rings T.missions most))

-- The first table with more than 64 rings.
pub record HasManyRings (D : Doc) (most : ℕ) (e : Failure) : Type 0 where
  pub table : ℕ
  pub in_range : table < length D.tables
  pub earlier : (u : ℕ) → u < table → HasFewRings most (table_at D u)
  pub many : HasTooManyRings most (table_at D table) table e

-- Why there is no such document: too many rings, then the start, then the making.
abbrev pub FailsToDerive : Doc → ℕ → ℕ → Failure → Type 0
FailsToDerive D most budget e =
    HasManyRings D most e
    ⊎ (HaveFewRings D most × IsBadStart (table_in (derived D most) 0) D.start e)
    ⊎ (HaveFewRings D most × Legal (table_in (derived D most) 0) D.start × FailsToMake (derived D most) budget e)
