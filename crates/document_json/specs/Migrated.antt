-- A document of version 1 as one of version 2.
use Rattle.std.specs.Prelude.{◌≡◌, ℕ, ◌==◌, false, map, if◌then◌else◌}
use Rattle.rail_model.specs.Table.{Mission}
use Rattle.document_json.specs.Doc.{Doc, DocTable}

-- a train that stays in the layout
abbrev pub staying : Mission → Mission
staying m = record { points = m.points; exits = false }

-- a table that no train leaves
abbrev pub staying_table : DocTable → DocTable
staying_table t = record t { table = record t.table { missions = map staying t.table.missions } }

-- version 2, or a later one
abbrev pub later_version : ℕ → ℕ
later_version version = if version == 1 then 2 else version

-- in version 1 the version becomes 2 and exits are all false, all else equal; a later document stays as it is
abbrev pub migrated : Doc → Doc
migrated D = if D.version == 1 then record D { version = 2; tables = map staying_table D.tables } else D

-- The documents differ in their version alone: so what is legal, the answer to a train that asks, the answer to a table
-- that is due, and which certificates are accepted are the same under each of their tables.
pub record IsMigrated (D E : Doc) : Type 0 where
  pub later : E.version ≡ later_version D.version
  pub layout : E.layout ≡ D.layout
  pub trains : E.trains ≡ D.trains
  pub start : E.start ≡ D.start
  pub tables : E.tables ≡ D.tables
