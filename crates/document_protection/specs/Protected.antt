-- A document whose tables get guards and certificates, and why it doesn't.
use Rattle.std.specs.Prelude.{◌≡◌, ◌+◌, ◌<◌, ℕ, List, [], length, slice_index_or, Ok}
use Rattle.forbidden_states.specs.Forbid.{Stay}
use Rattle.document_json.specs.Doc.{Doc, table_at}
use Rattle.document_json.specs.Migrated.{IsMigrated}
use Rattle.document_json.specs.Reading.{doc_of}
use Rattle.document_json.specs.Replaced.{new_table, replaced}
use Rattle.document_json.specs.Written.{written}
use Rattle.rail_model.specs.Certificate.{Tree, Accepts, arrived}
use Rattle.rail_model.specs.Move.{Stuck as IsStuck}
use Rattle.rail_model.specs.State.{Legal}
use Rattle.rail_model.specs.Table.{Table}
use Rattle.section_protect.specs.Protects.{IsGuarded}
use Rattle.document_protection.specs.declared.unprotected.Unprotected.{Unprotected}
use Rattle.document_protection.specs.declared.unprotected.Unprotected.TheVariants.{Memory, Uncertified, Start}
use Rattle.document_protection.specs.declared.unprotected.Why.{Why}
use Rattle.document_protection.specs.declared.unprotected.Why.TheVariants.{GaveUp, Full, Spent}

-- the certificate that comes with a number
abbrev pub new_tree : List (Table × Tree) → ℕ → Tree
new_tree parts t = (slice_index_or parts t (record { missions = []; sections = []; connections = [] }, arrived)).1

-- the table of a number
abbrev pub table_in : List Table → ℕ → Table
table_in tables t = slice_index_or tables t (record { missions = []; sections = []; connections = [] })

-- the guards of a number
abbrev pub guards_at : List (List (List Stay)) → ℕ → List (List Stay)
guards_at all t = slice_index_or all t []

-- The table has these guards behind the sections of the other one, and accepts the certificate.
pub record IsPartOf (T : Table) (guards : List (List Stay)) (made : Table) (c : Tree) : Type 0 where
  pub guarded_is : IsGuarded T guards made
  pub accepted : Accepts made c

-- Such guards, and such a table with its certificate, for each table.
pub record ArePartsOf (tables : List Table) (guards : List (List (List Stay)))
    (parts : List (Table × Tree)) : Type 0 where
  pub one_each : length parts ≡ length tables
  pub guards_each : length guards ≡ length tables
  pub each : (t : ℕ) → t < length tables →
      IsPartOf (table_in tables t) (guards_at guards t) (new_table parts t) (new_tree parts t)

-- Guards, and tables with certificates, for a document: each table has its guards behind the document's own sections,
-- and accepts its certificate.
pub record AreProtected (D : Doc) (guards : List (List (List Stay))) (parts : List (Table × Tree)) : Type 0 where
  pub one_each : length parts ≡ length D.tables
  pub guards_each : length guards ≡ length D.tables
  pub each : (t : ℕ) → t < length D.tables →
      IsPartOf (table_at D t) (guards_at guards t) (new_table parts t) (new_tree parts t)

-- The text is the document with these guards in its tables, and with certificates, in version 2 or later, all else
-- equal, and reads back as it.
pub record IsProtected (D : Doc) (guards : List (List (List Stay))) (text : List ℕ) : Type 0 where
  pub later : Doc
  pub parts : List (Table × Tree)
  pub migrated : IsMigrated D later
  pub tables : AreProtected D guards parts
  pub is_text : text ≡ written (replaced later parts)
  pub reads_back : doc_of text ≡ Ok (replaced later parts)

-- The state that is named, if one is, is stuck; a table that has no room for a section has 64.
abbrev pub IsStuckBy : Table → Why → Type 0
IsStuckBy made (GaveUp nodes) = Unit {0}
IsStuckBy made (Full p) = IsStuck made p × (length made.sections ≡ 64)
IsStuckBy made (Spent p) = IsStuck made p

-- The guards are guards of the table, and the state that is named is stuck with them.
pub record IsLeftBy (T : Table) (guards : List (List Stay)) (why : Why) : Type 0 where
  pub made : Table
  pub guarded_is : IsGuarded T guards made
  pub stuck : IsStuckBy made why

-- The guards are guards of the table, and forbid the state.
pub record IsForbidden (T : Table) (guards : List (List Stay)) (p : List ℕ) : Type 0 where
  pub made : Table
  pub guarded_is : IsGuarded T guards made
  pub forbidden : Legal made p → ⊥

-- Table t of the document has these guards.
pub record HasGuards (D : Doc) (t : ℕ) (guards : List (List Stay)) : Type 0 where
  pub within : t < length D.tables
  pub made : Table
  pub guarded_is : IsGuarded (table_at D t) guards made

-- Each of its first tables has guards of its own.
abbrev pub HaveGuards : Doc → List (List (List Stay)) → Type 0
HaveGuards D all = (t : ℕ) → t < length all → HasGuards D t (guards_at all t)

-- Of n tables those up to table t have guards, and this one has no certificate.
pub record AreLeft (n : ℕ) (T : ℕ → Table) (t : ℕ) (guards : List (List (List Stay))) (why : Why) : Type 0 where
  pub within : t < n
  pub count : length guards ≡ t + 1
  pub each : (k : ℕ) → k < t → (made : Table) × IsGuarded (T k) (guards_at guards k) made
  pub left : IsLeftBy (T t) (guards_at guards t) why

-- All tables of a document have guards, and those of the first one forbid the start.
pub record ForbidsStart (D : Doc) (guards : List (List (List Stay))) : Type 0 where
  pub some : 0 < length guards
  pub have_guards : HaveGuards D guards
  pub forbidden : IsForbidden (table_at D 0) (guards_at guards 0) D.start

-- Why one of these tables gets no certificate.
abbrev pub HasNoneOf : List Table → Unprotected → Type 0
HasNoneOf tables Memory = Unit {0}
HasNoneOf tables (Uncertified t guards why) = AreLeft (length tables) (table_in tables) t guards.items why
HasNoneOf tables (Start guards) = ⊥

-- Why a document isn't protected: one of its tables has guards, and gets no certificate; or the guards of the first one
-- forbid the start.
abbrev pub HasNone : Doc → Unprotected → Type 0
HasNone D Memory = Unit {0}
HasNone D (Uncertified t guards why) = AreLeft (length D.tables) (table_at D) t guards.items why
HasNone D (Start guards) = ForbidsStart D guards.items
