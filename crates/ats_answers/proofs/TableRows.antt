-- Worked rows: the tables of a document, and what is made of them.
use Rattle.std.proofs.Common.{◌≡◌, List, [], ◌∷◌, codes, pos, negsuc, refl, lit≤}
use Rattle.std.specs.Prelude.{false}
use Rattle.rail_model.specs.Table.{Table}
use Rattle.rail_model.specs.Certificate.{Tree, arrived, move, split}
use Rattle.document_json.specs.Doc.{Doc}
use Rattle.ats_answers.specs.Checking.{nodes_below}
use Rattle.ats_answers.specs.Deriving.{derived_table, derived, HasFewRings}
use Rattle.ats_answers.specs.Making.{table_in, tables_in, part_in, trees_in}

-- the corridor, with a section that nothing fits; the second train waits for the first
abbrev corridor : Table
corridor = record {
  missions = record { points = 0 ∷ 1 ∷ 2 ∷ 3 ∷ []; exits = false } ∷ record { points = 4 ∷ 2 ∷ 1 ∷ 5 ∷ []; exits = false } ∷ [];
  sections = record { limit = 0; changes = (pos 1 ∷ pos 0 ∷ pos 0 ∷ pos 0 ∷ []) ∷ (pos 1 ∷ pos 0 ∷ pos 0 ∷ pos 0 ∷ []) ∷ [] } ∷ [];
  connections = record { train = 1; place = 0; other = 0; reached = 3 } ∷ [];
}

abbrev one_way : Table
one_way = record { missions = record { points = 0 ∷ 1 ∷ []; exits = false } ∷ []; sections = []; connections = [] }

-- its ring's section stands in place of its own, and its connection stays
derived_corridor : derived_table 2 corridor ≡ record corridor {
  sections = record { limit = 1; changes = (pos 0 ∷ pos 1 ∷ negsuc 0 ∷ pos 0 ∷ []) ∷ (pos 0 ∷ pos 1 ∷ negsuc 0 ∷ pos 0 ∷ []) ∷ [] } ∷ [];
}
derived_corridor = refl

few_rings : HasFewRings 2 corridor
few_rings = lit≤ tt

-- two tables
abbrev two_tables : Doc
two_tables = record {
  version = 3;
  layout = record { points = []; links = []; zones = 1 };
  trains = codes "T0" ∷ codes "T1" ∷ [];
  tables =
      record { table = one_way; after = 0; times = []; nodes = [] } ∷ record { table = corridor; after = 5; times = []; nodes = [] } ∷ [];
  start = 0 ∷ 0 ∷ [];
}

their_tables : tables_in two_tables ≡ one_way ∷ corridor ∷ []
their_tables = refl

their_derived : derived two_tables 2 ≡ one_way ∷ derived_table 2 corridor ∷ []
their_derived = refl

-- tables are counted from 0
first_table : table_in (tables_in two_tables) 0 ≡ one_way
first_table = refl

second_table : table_in (tables_in two_tables) 1 ≡ corridor
second_table = refl

abbrev parts : List (Table × Tree)
parts = (one_way, split 0 0 (move 0) arrived) ∷ (corridor, move 1) ∷ []

first_part : part_in parts 0 ≡ (one_way, split 0 0 (move 0) arrived)
first_part = refl

second_part : part_in parts 1 ≡ (corridor, move 1)
second_part = refl

their_trees : trees_in parts ≡ split 0 0 (move 0) arrived ∷ move 1 ∷ []
their_trees = refl

-- the first tree has three nodes, the second one
node_counts : (nodes_below (trees_in parts) 0 ∷ nodes_below (trees_in parts) 1 ∷ nodes_below (trees_in parts) 2 ∷ []) ≡ 0 ∷ 3 ∷ 4 ∷ []
node_counts = refl
