-- When what a remark says is so.
use Rattle.std.specs.Prelude.{◌≡◌, ◌≢◌, ◌<◌, ◌≤◌, ◌≤ℤ◌, ◌<ℤ◌, ◌-◌, ◌==◌, if◌then◌else◌, ℕ, ℤ, pos, List, [], length, slice_index_or, None}
use Rattle.rail_model.specs.Table.{Table, Connection, trains, last, place, section, share}
use Rattle.rail_model.specs.State.{remaining}
use Rattle.document_json.specs.Doc.{Doc, doc_table, table_at}
use Rattle.document_facts.specs.Counting.{AreMore, Counts, IsAmongFirst, IsFirst}
use Rattle.document_facts.specs.Sections.{EndTogether, IsOverfullAtEnd, IsUnused, NeverBinds, OverfillsAlone, end}
use Rattle.document_facts.specs.Used.{IsEntered, IsJoined, IsUnusedLink, IsVisited}
use Rattle.document_facts.specs.declared.fact.Fact.{Fact}
use Rattle.document_facts.specs.declared.fact.Fact.TheVariants.{Refused, Member, PointUnused, LinkUnused, MoreLinksUnused, ZoneUnused, EndsAsEarlier, LikeShares, SectionUnused, SectionIdle, SectionRepeated, Overfilled, KeptForGood, OverfullAtEnd, ConnectionMet, ConnectionPassed, NeverDue, FormerRefused, SectionLost}

-- this many unused links are named
abbrev pub named : ℕ
named = 8

-- The document has this table.
abbrev pub IsTableOf : Doc → ℕ → Type 0
IsTableOf D t = t < length D.tables

-- The document has this table, with this section.
abbrev pub IsSectionOf : Doc → ℕ → ℕ → Type 0
IsSectionOf D t s = IsTableOf D t × (s < length (table_at D t).sections)

-- So it is, and the table has this train.
abbrev pub IsShareOf : Doc → ℕ → ℕ → ℕ → Type 0
IsShareOf D t s i = IsSectionOf D t s × (i < trains (table_at D t))

-- The document has this table, with this train.
abbrev pub IsTrainOf : Doc → ℕ → ℕ → Type 0
IsTrainOf D t i = IsTableOf D t × (i < trains (table_at D t))

-- The document has this table, with this connection.
abbrev pub IsConnectionOf : Doc → ℕ → ℕ → Type 0
IsConnectionOf D t c = IsTableOf D t × (c < length (table_at D t).connections)

-- a connection of a table
abbrev pub connection : Table → ℕ → Connection
connection T c = slice_index_or T.connections c (record { train = 0; place = 0; other = 0; reached = 0 })

-- Neither a link nor a mission leads to the point.
abbrev pub IsUnusedPoint : Doc → ℕ → Type 0
IsUnusedPoint D q = (IsJoined D.layout q → ⊥) × (IsVisited D q → ⊥)

-- Some train has a share of the section, but it never keeps one out.
abbrev pub IsIdle : Table → ℕ → Type 0
IsIdle T s = NeverBinds T s × (IsUnused T s → ⊥)

-- The train leaves the layout, and still has a share of the section then.
abbrev pub KeepsForGood : Table → ℕ → ℕ → Type 0
KeepsForGood T s i = (end T i ≡ None) × (share T i s (last T i) ≢ pos 0)

-- The train starts at the place or past it.
abbrev pub StartsFrom : List ℕ → ℕ → ℕ → Type 0
StartsFrom start i k = (i < length start) × (k ≤ place start i)

-- The train starts past the place.
abbrev pub StartsPast : List ℕ → ℕ → ℕ → Type 0
StartsPast start i k = (i < length start) × (k < place start i)

-- The connection is met at the start: its other train starts at the place that it has to reach, or past it.
abbrev pub IsMet : List ℕ → Connection → Type 0
IsMet start c = StartsFrom start c.other c.reached

-- The connection isn't met at the start, but its train starts past the place that it may not leave.
abbrev pub IsPassed : List ℕ → Connection → Type 0
IsPassed start c = (IsMet start c → ⊥) × StartsPast start c.train c.place

-- the greatest share in a version of documents
abbrev pub greatest_in : ℕ → ℤ
greatest_in version = if version == 1 then pos 1 else pos 4

-- a train's changes of a section
abbrev pub changes_of : Table → ℕ → ℕ → List ℤ
changes_of T s i = slice_index_or (section T s).changes i []

-- The number at the place is above 0.
abbrev pub Rises : List ℤ → ℕ → Type 0
Rises numbers k = pos 0 <ℤ slice_index_or numbers k (pos 0)

-- No number is below 0 or above the most.
abbrev pub AreWithin : ℤ → List ℤ → Type 0
AreWithin most numbers =
    (k : ℕ) → k < length numbers → (pos 0 ≤ℤ slice_index_or numbers k (pos 0)) × (slice_index_or numbers k (pos 0) ≤ℤ most)

-- Two or more numbers are above 0.
abbrev pub RiseOften : List ℤ → Type 0
RiseOften numbers = (rises : ℕ) × Counts (Rises numbers) (length numbers) rises × (1 < rises)

-- The numbers can be a train's shares, and are unlikely changes: none is below 0 or above the greatest share, two or more are above 0, and they
-- are no more than a train has places.
abbrev pub AreLikeShares : ℤ → List ℤ → Type 0
AreLikeShares most numbers = AreWithin most numbers × RiseOften numbers × (length numbers ≤ 129)

-- The last number is 0.
abbrev pub EndsAtNothing : List ℤ → Type 0
EndsAtNothing numbers = (length numbers ≢ 0) × (slice_index_or numbers (length numbers - 1) (pos 0) ≡ pos 0)

-- The numbers look like shares, and end as at a place without a share.
abbrev pub AreShares : ℤ → List ℤ → Type 0
AreShares most numbers = EndsAtNothing numbers × AreLikeShares most numbers

-- Table t isn't the first, and under each table before it all trains have arrived after fewer moves than table t is due after.
abbrev pub IsNeverDue : Doc → ℕ → Type 0
IsNeverDue D t = (0 < t) × ((earlier : ℕ) → earlier < t → remaining (table_at D earlier) D.start < (doc_table D t).after)

-- What is so of a document that `ats` takes.
abbrev pub Holds : Doc → Fact → Type 0
Holds D (PointUnused q) = (q < length D.layout.points) × IsUnusedPoint D q
Holds D (LinkUnused k) = (k < length D.layout.links) × IsAmongFirst (IsUnusedLink D) named k
Holds D (MoreLinksUnused more) = AreMore (IsUnusedLink D) named (length D.layout.links) more
Holds D (ZoneUnused z) = (z < D.layout.zones) × (IsEntered D z → ⊥)
Holds D (EndsAsEarlier t i j) = IsTrainOf D t i × IsFirst (λ j. EndTogether (table_at D t) j i) i j
Holds D (LikeShares t s i) = IsShareOf D t s i × AreShares (greatest_in D.version) (changes_of (table_at D t) s i)
Holds D (SectionUnused t s) = IsSectionOf D t s × IsUnused (table_at D t) s
Holds D (SectionIdle t s) = IsSectionOf D t s × IsIdle (table_at D t) s
Holds D (SectionRepeated t s r) = IsSectionOf D t s × IsFirst (λ r. section (table_at D t) r ≡ section (table_at D t) s) s r
Holds D (Overfilled t s i) = IsShareOf D t s i × OverfillsAlone (table_at D t) s i
Holds D (KeptForGood t s i) = IsShareOf D t s i × KeepsForGood (table_at D t) s i
Holds D (OverfullAtEnd t s) = IsSectionOf D t s × IsOverfullAtEnd (table_at D t) s
Holds D (ConnectionMet t c) = IsConnectionOf D t c × IsMet D.start (connection (table_at D t) c)
Holds D (ConnectionPassed t c) = IsConnectionOf D t c × IsPassed D.start (connection (table_at D t) c)
Holds D (NeverDue t) = IsTableOf D t × IsNeverDue D t
Holds D Refused = ⊥
Holds D (Member what) = ⊥
Holds D FormerRefused = ⊥
Holds D (SectionLost t s) = ⊥
