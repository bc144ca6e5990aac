-- Which sections of a former document are gone.
use Rattle.std.specs.Prelude.{◌<◌, ℕ, length, Contains}
use Rattle.rail_model.specs.Table.{Section, section}
use Rattle.document_json.specs.Doc.{Doc, table_at}
use Rattle.document_facts.specs.Adding.{Below, Is}
use Rattle.document_facts.specs.Facts.{IsSectionOf}
use Rattle.document_facts.specs.declared.fact.Fact.{Fact}
use Rattle.document_facts.specs.declared.fact.Fact.TheVariants.{Refused, Member, PointUnused, LinkUnused, MoreLinksUnused, ZoneUnused, EndsAsEarlier, LikeShares, SectionUnused, SectionIdle, SectionRepeated, Overfilled, KeptForGood, OverfullAtEnd, ConnectionMet, ConnectionPassed, NeverDue, FormerRefused, SectionLost}

-- Table t of the document is there, and has this section.
abbrev pub IsThere : Doc → ℕ → Section → Type 0
IsThere D t s = (t < length D.tables) × Contains (table_at D t).sections s

-- Table t of the document doesn't have this section of table t of the former document, or isn't there.
abbrev pub IsGone : Doc → Doc → ℕ → ℕ → Type 0
IsGone D F t s = IsThere D t (section (table_at F t) s) → ⊥

-- What is so of a document after a former one: these sections of the former one are gone.
abbrev pub HoldsSince : Doc → Doc → Fact → Type 0
HoldsSince D F (SectionLost t s) = IsSectionOf F t s × IsGone D F t s
HoldsSince D F Refused = ⊥
HoldsSince D F (Member what) = ⊥
HoldsSince D F (PointUnused q) = ⊥
HoldsSince D F (LinkUnused k) = ⊥
HoldsSince D F (MoreLinksUnused more) = ⊥
HoldsSince D F (ZoneUnused z) = ⊥
HoldsSince D F (EndsAsEarlier t i j) = ⊥
HoldsSince D F (LikeShares t s i) = ⊥
HoldsSince D F (SectionUnused t s) = ⊥
HoldsSince D F (SectionIdle t s) = ⊥
HoldsSince D F (SectionRepeated t s r) = ⊥
HoldsSince D F (Overfilled t s i) = ⊥
HoldsSince D F (KeptForGood t s i) = ⊥
HoldsSince D F (OverfullAtEnd t s) = ⊥
HoldsSince D F (ConnectionMet t c) = ⊥
HoldsSince D F (ConnectionPassed t c) = ⊥
HoldsSince D F (NeverDue t) = ⊥
HoldsSince D F FormerRefused = ⊥

-- the kind of facts that say which sections of a table are gone
abbrev pub OfLostIn : Doc → Doc → ℕ → Fact → Type 0
OfLostIn D F t = Below (λ s. Is (HoldsSince D F) (SectionLost t s)) (length (table_at F t).sections)

-- the same of all tables
abbrev pub OfLost : Doc → Doc → Fact → Type 0
OfLost D F = Below (OfLostIn D F) (length F.tables)

-- Each section of the former document is in the table of the same number.
abbrev pub KeepsSections : Doc → Doc → Type 0
KeepsSections D F = (t s : ℕ) → IsSectionOf F t s → IsThere D t (section (table_at F t) s)
