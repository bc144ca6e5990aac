-- A document with other travel times.
use Rattle.std.specs.Prelude.{◌≡◌, ℕ, ◌<◌, List, [], length, slice_index_or}
use Rattle.rail_model.specs.Times.{AreTimes}
use Rattle.document_json.specs.Doc.{Doc, DocTable, table_at}
use Rattle.document_json.specs.Replaced.{each_with}

-- the table with other travel times
abbrev pub retimed_table : DocTable → List (List ℕ) → DocTable
retimed_table t times = record t { times = times }

-- the document with these travel times, table by table, all else equal
abbrev pub retimed : Doc → List (List (List ℕ)) → Doc
retimed D times = record D { tables = each_with retimed_table D.tables times }

-- Travel times for each table of the document.
pub record AreTimesOf (D : Doc) (times : List (List (List ℕ))) : Type 0 where
  pub one_each : length times ≡ length D.tables
  pub each : (t : ℕ) → t < length D.tables → AreTimes (table_at D t) (slice_index_or times t [])
