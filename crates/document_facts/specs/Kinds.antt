-- The kinds of facts that are looked for, one after the other.
use Rattle.std.specs.Prelude.{ℕ, length}
use Rattle.rail_model.specs.Table.{trains}
use Rattle.document_json.specs.Doc.{Doc, table_at}
use Rattle.document_facts.specs.Adding.{Below, Is, Or}
use Rattle.document_facts.specs.Facts.{Holds}
use Rattle.document_facts.specs.declared.fact.Fact.{Fact}
use Rattle.document_facts.specs.declared.fact.Fact.TheVariants.{PointUnused, LinkUnused, MoreLinksUnused, ZoneUnused, EndsAsEarlier, LikeShares, SectionUnused, SectionIdle, SectionRepeated, Overfilled, KeptForGood, OverfullAtEnd, ConnectionMet, ConnectionPassed, NeverDue}

abbrev pub OfPoint : Doc → ℕ → Fact → Type 0
OfPoint D q = Is (Holds D) (PointUnused q)

abbrev pub OfPoints : Doc → Fact → Type 0
OfPoints D = Below (OfPoint D) (length D.layout.points)

abbrev pub OfLink : Doc → ℕ → Fact → Type 0
OfLink D k = Is (Holds D) (LinkUnused k)

-- that there are more unused links
abbrev pub OfMoreLinks : Doc → Fact → Type 0
OfMoreLinks D f = (more : ℕ) × Is (Holds D) (MoreLinksUnused more) f

abbrev pub OfLinks : Doc → Fact → Type 0
OfLinks D = Or (Below (OfLink D) (length D.layout.links)) (OfMoreLinks D)

abbrev pub OfZone : Doc → ℕ → Fact → Type 0
OfZone D z = Is (Holds D) (ZoneUnused z)

abbrev pub OfZones : Doc → Fact → Type 0
OfZones D = Below (OfZone D) D.layout.zones

abbrev pub OfLayout : Doc → Fact → Type 0
OfLayout D = Or (Or (OfPoints D) (OfLinks D)) (OfZones D)

-- that a train ends where an earlier one does
abbrev pub OfTrain : Doc → ℕ → ℕ → Fact → Type 0
OfTrain D t i f = (earlier : ℕ) × Is (Holds D) (EndsAsEarlier t i earlier) f

abbrev pub OfShares : Doc → ℕ → ℕ → ℕ → Fact → Type 0
OfShares D t s i = Is (Holds D) (LikeShares t s i)

-- that a section has no effect
abbrev pub OfIdle : Doc → ℕ → ℕ → Fact → Type 0
OfIdle D t s = Or (Is (Holds D) (SectionUnused t s)) (Is (Holds D) (SectionIdle t s))

-- that a section is the same as an earlier one
abbrev pub OfDouble : Doc → ℕ → ℕ → Fact → Type 0
OfDouble D t s f = (earlier : ℕ) × Is (Holds D) (SectionRepeated t s earlier) f

-- that a train overfills a section, or keeps some of it
abbrev pub OfShare : Doc → ℕ → ℕ → ℕ → Fact → Type 0
OfShare D t s i = Or (Is (Holds D) (Overfilled t s i)) (Is (Holds D) (KeptForGood t s i))

-- which trains' changes of a section look like shares
abbrev pub OfSharesOfAll : Doc → ℕ → ℕ → Fact → Type 0
OfSharesOfAll D t s = Below (OfShares D t s) (trains (table_at D t))

-- which trains overfill a section, or keep some of it
abbrev pub OfTrainsShares : Doc → ℕ → ℕ → Fact → Type 0
OfTrainsShares D t s = Below (OfShare D t s) (trains (table_at D t))

abbrev pub OfSection : Doc → ℕ → ℕ → Fact → Type 0
OfSection D t s = Or (Or (Or (Or (OfSharesOfAll D t s) (OfIdle D t s)) (OfDouble D t s)) (OfTrainsShares D t s)) (Is (Holds D) (OverfullAtEnd t s))

abbrev pub OfConnection : Doc → ℕ → ℕ → Fact → Type 0
OfConnection D t c = Or (Is (Holds D) (ConnectionMet t c)) (Is (Holds D) (ConnectionPassed t c))

abbrev pub OfTrains : Doc → ℕ → Fact → Type 0
OfTrains D t = Below (OfTrain D t) (trains (table_at D t))

abbrev pub OfSections : Doc → ℕ → Fact → Type 0
OfSections D t = Below (OfSection D t) (length (table_at D t).sections)

abbrev pub OfConnections : Doc → ℕ → Fact → Type 0
OfConnections D t = Below (OfConnection D t) (length (table_at D t).connections)

abbrev pub OfTable : Doc → ℕ → Fact → Type 0
OfTable D t = Or (Or (OfTrains D t) (OfSections D t)) (OfConnections D t)

abbrev pub OfTables : Doc → Fact → Type 0
OfTables D = Below (OfTable D) (length D.tables)

abbrev pub OfAfter : Doc → ℕ → Fact → Type 0
OfAfter D t = Is (Holds D) (NeverDue t)

abbrev pub OfAfters : Doc → Fact → Type 0
OfAfters D = Below (OfAfter D) (length D.tables)

-- of a document that `ats` takes
abbrev pub OfDocument : Doc → Fact → Type 0
OfDocument D = Or (Or (OfLayout D) (OfTables D)) (OfAfters D)
