-- What tables of two runs are.
use Rattle.std.specs.Prelude.{◌≡◌, ℕ, Bool, true, false, List, Option, None, String, Vec}
use Rattle.std.specs.declared.alloc.Global.{Global}
use Rattle.document_json.specs.Doc.{Doc, names_of}
use Rattle.plan_input.specs.Standing.{Stands}
use Rattle.run_comparison.specs.Columns.{columns_text}
use Rattle.run_comparison.specs.Csv.{csv_text}
use Rattle.run_comparison.specs.declared.sides.Side.{Side}
use Rattle.run_timetable.specs.declared.run.Run.{Run}
use Rattle.planner_run.specs.Running.{IsRunOf}
use denote.Ref.{Bor}

-- One of the two runs is that of a document.
pub record IsSide (D : Doc) (run : Run) (side : Side) : Type 0 where
  pub is_layout : side.layout.now ≡ D.layout
  pub are_names : side.names.now ≡ names_of D
  pub is_run : side.run.now ≡ run

-- The text is the table of two runs: with commas by points, or in columns by trains.
abbrev pub IsTable : Side → Side → Bool → List ℕ → Type 0
IsTable first second true text = text ≡ csv_text first second
IsTable first second false text = text ≡ columns_text first second

-- The text is the table of two runs of documents.
pub record IsCompared (D : Doc) (run : Run) (E : Doc) (later : Run) (is_csv : Bool) (text : List ℕ) : Type 0 where
  pub first : Side
  pub second : Side
  pub is_first : IsSide D run first
  pub is_second : IsSide E later second
  pub is_table : IsTable first second is_csv text

-- The text compares a run with that of another input, which has a delay if one is named.
pub record IsBeside (D : Doc) (run : Run) (other : List ℕ) (delay : Option (Bor (List ℕ))) (is_csv : Bool) (text : List ℕ) : Type 0 where
  pub document : Doc
  pub other_run : Run
  pub is_other : IsRunOf other delay document other_run
  pub is_compared : IsCompared D run document other_run is_csv text

-- The text compares an input's run with that of another input, which has a delay if one is named.
pub record IsComparison (input other : List ℕ) (delay : Option (Bor (List ℕ))) (is_csv : Bool) (text : List ℕ) : Type 0 where
  pub document : Doc
  pub run : Run
  pub is_run : IsRunOf input None document run
  pub is_beside : IsBeside document run other delay is_csv text

-- The same of another input that may be a plan: its document stands for it.
pub record IsComparisonWith (input other : List ℕ) (is_csv : Bool) (text : List ℕ) : Type 0 where
  pub standing : List ℕ
  pub names : List (Vec (String Global) Global)
  pub stands : Stands None other standing names
  pub is_comparison : IsComparison input standing None is_csv text
