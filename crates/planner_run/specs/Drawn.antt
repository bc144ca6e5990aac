-- What pictures are of a document.
use Rattle.std.specs.Prelude.{◌≡◌, ℕ, Bool, List, String, Vec}
use Rattle.std.specs.declared.alloc.Global.{Global}
use Rattle.rail_model.specs.State.{Legal}
use Rattle.document_json.specs.Doc.{Doc, names_of, table_at}
use Rattle.layout_picture.specs.Drawn.{IsDrawn}
use Rattle.refusal_sentences.specs.Explains.{sections_named}
use Rattle.run_timetable.specs.declared.run.Run.{Run}
use Rattle.svg_text.specs.Text.{svg_text}
use Rattle.svg_text.specs.Tree.{Picture}
use Rattle.train_graph.specs.Graph.{IsGraph}
use Rattle.wait_causes.specs.Waits.{AreWaits}
use Rattle.wait_causes.specs.declared.wait.Wait.{Wait}

-- The text is the graph of a timed run with these waits: a picture with one row for each point, by its name, one mark for each step, and
-- bars where points are taken if this is asked for.
pub record IsGraphOf (D : Doc) (run : Run) (waits : List Wait) (blocks : Bool) (text : List ℕ) : Type 0 where
  pub picture : Picture
  pub is_graph : IsGraph D.layout (names_of D) run waits blocks picture
  pub is_text : text ≡ svg_text picture

-- The text is such a graph, and says what trains of the run wait for, by these names of sections.
pub record IsGraphWithWaits (D : Doc) (names : List (Vec (String Global) Global)) (run : Run) (blocks : Bool) (text : List ℕ) : Type 0 where
  pub waits : List Wait
  pub are_waits : AreWaits D names run waits
  pub is_graph : IsGraphOf D run waits blocks text

-- The text is a picture of a document's layout under its table t, by these names of sections, and of its trains at these places, which are
-- legal there.
pub record IsLayoutAt (D : Doc) (names : List (Vec (String Global) Global)) (t : ℕ) (places text : List ℕ) : Type 0 where
  pub picture : Picture
  pub legal : Legal (table_at D t) places
  pub is_drawn : IsDrawn D.layout (sections_named names t) (table_at D t) places picture.width picture.height picture.groups
  pub is_text : text ≡ svg_text picture
