-- What a simulation that ends well prints.
use Rattle.std.specs.Prelude.{◌≡◌, ℕ, List, [], ◌∷◌, ◌++◌, codes, decimal}
use Rattle.rail_model.specs.declared.types.Line.{Line}
use Rattle.rail_model.specs.Certificate.{Tree}
use Rattle.rail_model.specs.Names.{Names}
use Rattle.rail_model.specs.Yard.{Yard, opening}
use Rattle.rail_model.specs.Journal.{IsWhole, words, with_counts}
use Rattle.train_sim.specs.Report.{Simulates, IsSoon}
use Rattle.document_json.specs.Doc.{Doc, offers_of, names_of, times_of}
use Rattle.accepted_documents.specs.Accepting.{AreAccepted}
use Rattle.ats_answers.specs.Going.{GoesOnWell}

-- each line, with its tick before it
abbrev pub timed_text : Names → List ℕ → List Line → List ℕ
timed_text N (t ∷ ticks) (l ∷ lines) = decimal t ++ words N l ++ codes "\n" ++ timed_text N ticks lines
timed_text N _ _ = []

-- the counts of the lines, and the tick of the last move
abbrev pub last_text : List Line → ℕ → List ℕ
last_text lines tick =
    codes "end moves=" ++ decimal (with_counts lines).moves ++ codes " tables=" ++ decimal (with_counts lines).tables
    ++ codes " last=" ++ decimal tick ++ codes "\n"

-- The bytes are the timed journal of one whole run by the document's travel times, under tables that accept their certificates. From
-- every state of the run each way of going on ends well, and its last move comes soon.
pub record IsSimulated (D : Doc) (bytes : List ℕ) : Type 0 where
  pub trees : List Tree
  pub accepted : AreAccepted D trees
  pub lines : List Line
  pub ticks : List ℕ
  pub last_tick : ℕ
  pub end : Yard
  pub simulates : Simulates (offers_of D) (times_of D) (opening D.start) [] lines ticks last_tick end
  pub soon : IsSoon (offers_of D) (times_of D) end.moves last_tick
  pub whole : IsWhole (offers_of D) (opening D.start) (with_counts lines)
  pub goes_on_well : GoesOnWell (offers_of D) (opening D.start) lines
  pub printed : bytes ≡ timed_text (names_of D) ticks lines ++ last_text lines last_tick
