-- What repairing comes to.
use Rattle.std.specs.Prelude.{◌≡◌, ◌≢◌, ◌⊎◌, ℕ, ◌<◌, List, [], length}
use Rattle.rail_model.specs.Table.{Table}
use Rattle.rail_model.specs.State.{Legal}
use Rattle.rail_model.specs.Certificate.{Tree}
use Rattle.section_repair.specs.Repairs.{Repairs}
use Rattle.section_repair.specs.Claims.{LosesNothing, IsExact, DoomsAlike}
use Rattle.section_repair.specs.declared.repaired.Repair.{Repair}
use Rattle.section_repair.specs.declared.repaired.Repair.TheVariants as repair
use Rattle.document_json.specs.Doc.{Doc, table_at}
use Rattle.document_json.specs.Replaced.{replaced}
use Rattle.ats_answers.specs.declared.failure.Failure.{Failure}
use Rattle.ats_answers.specs.declared.failure.Failure.TheVariants.{Spent, Rounds, Many, Connected}
use Rattle.ats_answers.specs.Certificates.{IsAcceptedText}
use Rattle.ats_answers.specs.Making.{part_in, trees_in}
use Rattle.ats_answers.specs.Starting.{IsBadStart}

-- A repair of the missions of T ends with the table U and this certificate. A state with distinct points is legal under U exactly
-- where it can be completed.
abbrev pub IsRepairedAs : Table → ℕ → ℕ → Table → Tree → Type 0
IsRepairedAs T budget rounds U c =
    (n : ℕ) × Repairs T.missions budget rounds (repair.Done U c n) × IsExact T.missions (repair.Done U c n)

-- A repair of the missions of T ends so; the sections that it made forbid only states that can't be completed.
abbrev pub EndsRepair : Table → ℕ → ℕ → Repair → Type 0
EndsRepair T budget rounds r = Repairs T.missions budget rounds r × LosesNothing T.missions r

-- A repair of the table with this number ends without a certificate.
abbrev pub RepairsNone : Table → ℕ → ℕ → ℕ → Failure → Type 0
RepairsNone T t budget rounds (Spent u n) = (u ≡ t) × ((U : Table) × EndsRepair T budget rounds (repair.Spent U n))
RepairsNone T t budget rounds (Rounds u n p) = (u ≡ t) × ((U : Table) × EndsRepair T budget rounds (repair.Rounds U n p))
RepairsNone T t budget rounds (Many u n) = (u ≡ t) × ((U : Table) × EndsRepair T budget rounds (repair.Many U n))
RepairsNone T t budget rounds e = ⊥

-- The first tables of the document are repaired so; after table 0 the start is legal.
pub record AreRepaired (D : Doc) (budget rounds : ℕ) (count : ℕ) (parts : List (Table × Tree)) : Type 0 where
  pub one_each : length parts ≡ count
  pub each : (t : ℕ) → t < count → IsRepairedAs (table_at D t) budget rounds (part_in parts t).0 (part_in parts t).1
  pub start : 0 < count → Legal (part_in parts 0).0 D.start

-- None of the first tables of the document has a connection.
abbrev pub IsUnconnected : Doc → ℕ → Type 0
IsUnconnected D count = (t : ℕ) → t < count → (table_at D t).connections ≡ []

-- The bytes are the document with the sections that repairs made, and their certificates, which its tables accept.
pub record IsRepaired (D : Doc) (budget rounds : ℕ) (bytes : List ℕ) : Type 0 where
  pub unconnected : IsUnconnected D (length D.tables)
  pub parts : List (Table × Tree)
  pub repaired : AreRepaired D budget rounds (length D.tables) parts
  pub text : IsAcceptedText (replaced D parts) (trees_in parts) bytes

-- The first table with a connection.
pub record HasConnection (D : Doc) (e : Failure) : Type 0 where
  pub table : ℕ
  pub in_range : table < length D.tables
  pub earlier : IsUnconnected D table
  pub connected : (table_at D table).connections ≢ []
  pub told : e ≡ Connected table

-- The first table whose repair ends without a certificate.
pub record HasUnrepaired (D : Doc) (budget rounds : ℕ) (e : Failure) : Type 0 where
  pub unconnected : IsUnconnected D (length D.tables)
  pub table : ℕ
  pub in_range : table < length D.tables
  pub parts : List (Table × Tree)
  pub earlier : AreRepaired D budget rounds table parts
  pub none : RepairsNone (table_at D table) table budget rounds e

-- The repaired table 0 under which a start isn't legal: no state can be completed that has the trains of the section that is over at
-- their places of the start.
pub record IsRefusedStart (T : Table) (p : List ℕ) (budget rounds : ℕ) (e : Failure) : Type 0 where
  pub table : Table
  pub tree : Tree
  pub repaired : IsRepairedAs T budget rounds table tree
  pub dooms : DoomsAlike T.missions (repair.Done table tree repaired.0)
  pub start : IsBadStart table p e

-- The start isn't legal under the repaired table 0.
abbrev pub HasBadStart : Doc → ℕ → ℕ → Failure → Type 0
HasBadStart D budget rounds e = IsUnconnected D (length D.tables) × IsRefusedStart (table_at D 0) D.start budget rounds e

-- Why there is no such document: a connection, then table by table the repair, with the start after table 0.
abbrev pub FailsToRepair : Doc → ℕ → ℕ → Failure → Type 0
FailsToRepair D budget rounds e =
    HasConnection D e ⊎ HasUnrepaired D budget rounds e ⊎ HasBadStart D budget rounds e

-- The repair of the table ends with a certificate, for a table of which the fact holds.
abbrev pub HasRepair : Table → ℕ → ℕ → (Table → Type 0) → Type 0
HasRepair T budget rounds P = (U : Table) × (c : Tree) × (n : ℕ) × Repairs T.missions budget rounds (repair.Done U c n) × P U

-- No connections, each repair ends with a certificate, and the start is legal under the repaired table 0.
pub record IsRepairable (D : Doc) (budget rounds : ℕ) : Type 0 where
  pub unconnected : IsUnconnected D (length D.tables)
  pub each : (t : ℕ) → t < length D.tables → HasRepair (table_at D t) budget rounds (λ U. Unit {0})
  pub start : HasRepair (table_at D 0) budget rounds (λ U. Legal U D.start)
