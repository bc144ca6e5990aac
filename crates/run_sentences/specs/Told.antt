-- What is told of runs to places under a table of a document.
use Rattle.std.specs.Prelude.{◌≡◌, ◌≢◌, ℕ, ◌<◌, pos, ◌+ℤ◌, ◌<ℤ◌, List, [], ◌∷◌, ◌++◌, length, All, codes, decimal}
use Rattle.rail_model.specs.Names.{Names, train_name}
use Rattle.rail_model.specs.declared.types.Line.{Line}
use Rattle.rail_model.specs.Journal.{lines_text}
use Rattle.rail_model.specs.Table.{Table, limit, place, share, trains}
use Rattle.rail_model.specs.Yard.{Offer, Yard}
use Rattle.document_json.specs.Doc.{Doc, names_of, offers_of}
use Rattle.move_journal.specs.Printable.{IsNamed}
use Rattle.order_search.specs.declared.search.Two.{Two}
use Rattle.reached_states.specs.Reached.{IsReached, offered}
use Rattle.run_search.specs.Answered.{AnswersRun}
use Rattle.run_search.specs.declared.finding.RunTo.{RunTo}
use Rattle.run_search.specs.declared.finding.RunTo.TheVariants.{Run, NoRun, Unknown}
use Rattle.run_sentences.specs.declared.known.Known.{Known}
use Rattle.run_sentences.specs.declared.known.Known.TheVariants.{Searched, Apart}

-- a run by its lines, with their numbers; a sentence where it has none
abbrev pub lines_words : Names → List Line → List ℕ
lines_words N [] = codes "The trains are there at the start: no move is needed.\n"
lines_words N (line ∷ later) = codes "A run from the start leads there:\n" ++ lines_text N 1 (line ∷ later)

-- what is told of runs
abbrev pub run_words : Names → RunTo → List ℕ
run_words N (Run lines) = lines_words N lines.items
run_words N NoRun = codes "No run from the start leads there.\n"
run_words N (Unknown states) =
    decimal states ++ codes " states were searched, and neither a run from the start that leads there was found, nor that there is none.\n"

-- The trains and points of a run's lines have names.
abbrev pub HasNamedLines : Names → RunTo → Type 0
HasNamedLines N (Run lines) = All (IsNamed N) lines.items
HasNamedLines N NoRun = Unit {0}
HasNamedLines N (Unknown states) = Unit {0}

-- Two trains at their places pass the limit of a section, by their two shares alone.
pub record PassALimit (T : Table) (at : List ℕ) (two : Two) : Type 0 where
  pub s : ℕ
  pub section : s < length T.sections
  pub first : two.first < trains T
  pub second : two.second < trains T
  pub differ : two.first ≢ two.second
  pub over : pos (limit T s) <ℤ (share T two.first s (place at two.first) +ℤ share T two.second s (place at two.second))

-- Two trains, which no state that is reached from the start has both at their places of `at` under table t: so no run leads
-- there, wherever the other trains are.
pub record AreApart (tables : List Offer) (start : List ℕ) (t : ℕ) (at : List ℕ) (two : Two) : Type 0 where
  pub first : two.first < trains (offered tables 0)
  pub second : two.second < trains (offered tables 0)
  pub differ : two.first ≢ two.second
  pub never : (y : Yard) → IsReached tables start y → y.table ≡ t
      → place y.positions two.first ≡ place at two.first → place y.positions two.second ≡ place at two.second → ⊥

-- What is known of runs to places under table t of a document is so.
abbrev pub IsKnown : Doc → ℕ → List ℕ → Known → Type 0
IsKnown D t at (Searched told) = AnswersRun (offers_of D) D.start at t told
IsKnown D t at (Apart two) = AreApart (offers_of D) D.start t at two

-- the sentence that names two trains
abbrev pub apart_words : Names → Two → List ℕ
apart_words N two =
    codes "No run from the start leads there, since " ++ train_name N two.first ++ codes " and " ++ train_name N two.second
    ++ codes " are never both at these places.\n"

abbrev pub known_words : Names → Known → List ℕ
known_words N (Searched told) = run_words N told
known_words N (Apart two) = apart_words N two

-- Two trains have names.
abbrev pub AreNamed : Names → Two → Type 0
AreNamed N two = (two.first < length N.trains) × (two.second < length N.trains)

-- So have the trains and points of what is known.
abbrev pub HasNames : Names → Known → Type 0
HasNames N (Searched told) = HasNamedLines N told
HasNames N (Apart two) = AreNamed N two

-- The text tells what is known of runs from the start to places under table t, which is so.
pub record TellsRun (D : Doc) (t : ℕ) (places text : List ℕ) : Type 0 where
  pub known : Known
  pub is_so : IsKnown D t places known
  pub words : text ≡ known_words (names_of D) known
