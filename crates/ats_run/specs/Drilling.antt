-- What drilling a generated document's run comes to.
use Rattle.std.specs.Prelude.{◌≡◌, ℕ, List, [], ◌++◌, length, codes, decimal}
use Rattle.rail_model.specs.Certificate.{Tree}
use Rattle.rail_model.specs.State.{remaining}
use Rattle.shared_run.specs.declared.crews.Crew.{Crew}
use Rattle.document_json.specs.Doc.{Doc, table_at}
use Rattle.accepted_documents.specs.Accepting.{AreAccepted}
use Rattle.ats_answers.specs.Checking.{nodes_below}
use Rattle.ats_run.specs.Headline.{IsRun, IsRunBy}

-- how many trains there are, the moves and exchanges of a run, and the nodes of the certificates
abbrev pub drill_text : ℕ → ℕ → ℕ → ℕ → List ℕ
drill_text trains moves tables nodes =
    codes "trains=" ++ decimal trains ++ codes " moves=" ++ decimal moves ++ codes " tables=" ++ decimal tables
    ++ codes " nodes=" ++ decimal nodes ++ codes "\n"

-- The bytes count the moves and exchanges of the document's run by a crew, and the nodes of its certificates. The document has one table,
-- which is never exchanged, and the moves of the run are those that remain at the start.
pub record IsDrilled (D : Doc) (crew : Crew) (bytes : List ℕ) : Type 0 where
  pub one_table : length D.tables ≡ 1
  pub text : List ℕ
  pub run : IsRun D text
  pub by : IsRunBy D crew [] run.journal.lines
  pub moves : run.journal.moves ≡ remaining (table_at D 0) D.start
  pub exchanges : run.journal.tables ≡ 0
  pub printed : bytes ≡ drill_text (length D.trains) run.journal.moves run.journal.tables (nodes_below run.trees (length run.trees))

-- The bytes count the trains, the moves that remain at the document's start, no exchange, and the nodes of its certificates. No crew comes
-- in: they are the same for every number of workers.
abbrev pub IsDrillLine : Doc → List ℕ → Type 0
IsDrillLine D written =
    (trees : List Tree) × AreAccepted D trees
    × (written ≡ drill_text (length D.trains) (remaining (table_at D 0) D.start) 0 (nodes_below trees (length trees)))
