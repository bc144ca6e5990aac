-- A document: a layout, trains, tables with their times and certificates, and a start.
use Rattle.std.specs.Prelude.{◌≡◌, ℕ, ◌<◌, List, [], length, map, slice_index_or}
use Rattle.rail_model.specs.declared.types.Node.{Node}
use Rattle.rail_model.specs.Layout.{Layout, IsLayout, point_names}
use Rattle.rail_model.specs.Names.{Names, IsNames}
use Rattle.rail_model.specs.Table.{Table, IsTable, trains}
use Rattle.rail_model.specs.State.{Legal}
use Rattle.rail_model.specs.Times.{AreTimes}
use Rattle.rail_model.specs.Ways.{IsOn}
use Rattle.rail_model.specs.Yard.{Offer}
use Rattle.table_exchange.specs.Tables.{AreTables}

-- A table, the moves after which it is due, its travel times, and the nodes of its certificate as they are written.
pub record DocTable : Type 0 where
  pub table : Table
  pub after : ℕ
  pub times : List (List ℕ)
  pub nodes : List Node

-- The version, the layout, the trains' names, the tables, and the position of each train at the start.
pub record Doc : Type 0 where
  pub version : ℕ
  pub layout : Layout
  pub trains : List (List ℕ)
  pub tables : List DocTable
  pub start : List ℕ

-- a table of the document with what belongs to it
abbrev pub doc_table : Doc → ℕ → DocTable
doc_table D t =
    slice_index_or D.tables t
    (record { table = record { missions = []; sections = []; connections = [] }; after = 0; times = []; nodes = [] })

abbrev pub table_at : Doc → ℕ → Table
table_at D t = (doc_table D t).table

abbrev pub nodes_at : Doc → ℕ → List Node
nodes_at D t = (doc_table D t).nodes

-- the names of the points and of the trains
abbrev pub names_of : Doc → Names
names_of D = record { points = point_names D.layout; trains = D.trains }

-- each table with the moves after which it is due
abbrev pub offers_of : Doc → List Offer
offers_of D = map (λ t. record { table = t.table; after = t.after }) D.tables

-- the travel times, table by table
abbrev pub times_of : Doc → List (List (List ℕ))
times_of D = map (λ t. t.times) D.tables

-- What every document keeps: all its parts fit together, and the start is legal under table 0.
pub record IsDoc (D : Doc) : Type 0 where
  pub layout : IsLayout D.layout
  pub names : IsNames (names_of D)
  pub tables : AreTables (offers_of D)
  pub formed : (t : ℕ) → t < length D.tables → IsTable (table_at D t)
  pub trains : (t : ℕ) → t < length D.tables → trains (table_at D t) ≡ length D.trains
  pub points : (t : ℕ) → t < length D.tables → IsOn D.layout (table_at D t)
  pub times : (t : ℕ) → t < length D.tables → AreTimes (table_at D t) (doc_table D t).times
  pub start : Legal (table_at D 0) D.start
