-- Runs that go on from a journal.
use Rattle.std.specs.Prelude.{◌≡◌, ◌⊎◌, ℕ, ◌+◌, List, ◌++◌}
use Rattle.rail_model.specs.declared.types.Line.{Line as Step}
use Rattle.rail_model.specs.Journal.{Journal, text, with_counts}
use Rattle.move_journal.specs.Answers.{IsTextOf, IsFrontOf}
use Rattle.shared_run.specs.declared.crews.Crew.{Crew}
use Rattle.document_json.specs.Doc.{Doc, names_of}
use Rattle.ats_run.specs.Headline.{IsRun, IsRunBy}

-- The bytes are the text of a front and of lines that go on from its state, by a crew.
pub record GoesOnFrom (D : Doc) (crew : Crew) (front : Journal) (written : List ℕ) : Type 0 where
  pub added : List Step
  pub by : IsRunBy D crew front.lines added
  pub printed : written ≡ text (names_of D) (with_counts (front.lines ++ added))

-- The given bytes are a journal's text and were written as they are, or they are a front, from whose state the run goes on.
abbrev pub IsContinued : Doc → Crew → List ℕ → List ℕ → Type 0
IsContinued D crew given written =
    (((journal : Journal) × IsTextOf (names_of D) given journal) × (written ≡ given))
    ⊎ ((front : Journal) × IsFrontOf (names_of D) given front × GoesOnFrom D crew front written)

-- What `resume` writes: the text of one whole run of the document, that begins with the given text.
pub record IsResumed (D : Doc) (crew : Crew) (given written : List ℕ) : Type 0 where
  pub run : IsRun D written
  pub rest : List ℕ
  pub begins : written ≡ given ++ rest
  pub continued : IsContinued D crew given written
