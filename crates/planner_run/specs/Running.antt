-- The run that an input is about.
use Rattle.std.specs.Prelude.{◌≡◌, ◌⊎◌, ◌==◌, ℕ, List, Ok, Option, Some, None}
use Rattle.std.specs.List.{after_first, before_first}
use Rattle.ats_answers.specs.Simulating.{IsSimulated}
use Rattle.decimal_number.specs.Decimal.{number_of}
use Rattle.delayed_documents.specs.Delayed.{IsDelayed}
use Rattle.delayed_documents.specs.declared.delay.Delay.{Delay}
use Rattle.document_certificates.specs.Certified.{HasNone, IsCertified}
use Rattle.document_json.specs.Doc.{Doc}
use Rattle.document_json.specs.Reading.{doc_of}
use Rattle.run_timetable.specs.declared.run.Run.{Run as RunValue}
use Rattle.timed_reading.specs.Reads.{IsInputOf}
use Rattle.timed_reading.specs.Runs.{IsToldIn, IsToldRun}
use Rattle.planner_run.specs.declared.running.Found.{Found}
use Rattle.planner_run.specs.declared.running.Found.TheVariants.{Run, None as NoRun}
use Rattle.planner_run.specs.declared.running.Ran.{Ran}
use Rattle.planner_run.specs.declared.running.Ran.TheVariants.{Given, Own, Open, Not}
use denote.Ref.{Bor}

-- what stands behind the first = in words
abbrev pub after_equals : List ℕ → List ℕ
after_equals words = after_first (λ b. b == 61) words

-- The words name a delay as TRAIN=POINT+TICKS: a train before the first =, then a point up to the next +, and behind it a number.
pub record IsDelayIn (words : List ℕ) (delay : Delay) : Type 0 where
  pub train : delay.train.now ≡ before_first (λ b. b == 61) words
  pub point : delay.point.now ≡ before_first (λ b. b == 43) (after_equals words)
  pub ticks : number_of (after_first (λ b. b == 43) (after_equals words)) ≡ Some delay.ticks

-- A document with the delay that words name.
pub record IsDelayedBy (words : List ℕ) (D E : Doc) : Type 0 where
  pub delay : Delay
  pub is_named : IsDelayIn words delay
  pub is_delayed : IsDelayed D delay E

-- A document as it is; or with a delay, if words name one.
abbrev pub IsTimed : Option (Bor (List ℕ)) → Doc → Doc → Type 0
IsTimed None D E = E ≡ D
IsTimed (Some words) D E = IsDelayedBy words.now D E

-- The text is a document, and the run is the one that `ats sim` writes of it.
pub record IsSimulatedRun (text : List ℕ) (D : Doc) (run : RunValue) : Type 0 where
  pub lines : List ℕ
  pub is_read : doc_of text ≡ Ok D
  pub is_simulated : IsSimulated D lines
  pub is_told : IsToldIn D lines run

-- The text is a document, and D is it, or it with a delay; the run is that of D.
pub record IsTimedRun (text : List ℕ) (delay : Option (Bor (List ℕ))) (D : Doc) (run : RunValue) : Type 0 where
  pub document : Doc
  pub final : List ℕ
  pub is_read : doc_of text ≡ Ok document
  pub is_timed : IsTimed delay document D
  pub is_run : IsSimulatedRun final D run

-- The input is a document, and the run is that of the document with certificates, which were found by search, and with a delay if one is named.
pub record IsOwnRun (input : List ℕ) (delay : Option (Bor (List ℕ))) (D : Doc) (run : RunValue) : Type 0 where
  pub document : Doc
  pub text : List ℕ
  pub is_read : doc_of input ≡ Ok document
  pub is_certified : IsCertified document 1000000 text
  pub is_run : IsTimedRun text delay D run

-- The run is the one whose lines stand behind the document that the input begins with, and no delay is named; or the input is a document
-- alone, and the run its own.
abbrev pub IsRunOf : List ℕ → Option (Bor (List ℕ)) → Doc → RunValue → Type 0
IsRunOf input delay D run = ((delay ≡ None) × IsInputOf input D run) ⊎ IsOwnRun input delay D run

-- What is found of an input is its run, if anything; or that no certificates of the document were found.
abbrev pub IsRan : List ℕ → Option (Bor (List ℕ)) → Ran → Type 0
IsRan input delay (Given doc run) = (delay ≡ None) × IsInputOf input doc run × IsToldRun doc run
IsRan input delay (Own doc run) = IsOwnRun input delay doc run
IsRan input delay (Open doc why) = (doc_of input ≡ Ok doc) × HasNone doc 1000000 why
IsRan input delay (Not lines) = Unit {0}

-- The same, where it doesn't matter whose run it is.
abbrev pub IsFound : List ℕ → Option (Bor (List ℕ)) → Found → Type 0
IsFound input delay (Run doc run) = IsRunOf input delay doc run × IsToldRun doc run
IsFound input delay (NoRun lines) = Unit {0}

-- The same of a text with certificates.
abbrev pub IsRanBy : List ℕ → Option (Bor (List ℕ)) → Ran → Type 0
IsRanBy text delay (Given doc run) = ⊥
IsRanBy text delay (Own doc run) = IsTimedRun text delay doc run
IsRanBy text delay (Open doc why) = ⊥
IsRanBy text delay (Not lines) = Unit {0}

-- The same of a document with certificates.
abbrev pub IsRanAs : Doc → Option (Bor (List ℕ)) → Ran → Type 0
IsRanAs D delay (Given doc run) = ⊥
IsRanAs D delay (Own doc run) = IsTimed delay D doc × ((final : List ℕ) × IsSimulatedRun final doc run)
IsRanAs D delay (Open doc why) = ⊥
IsRanAs D delay (Not lines) = Unit {0}

-- The same of a text and the document that it is.
abbrev pub IsPlayed : Doc → List ℕ → Ran → Type 0
IsPlayed D text (Given doc run) = ⊥
IsPlayed D text (Own doc run) = (doc ≡ D) × IsSimulatedRun text doc run
IsPlayed D text (Open doc why) = ⊥
IsPlayed D text (Not lines) = Unit {0}

-- The same of a document and the lines of its run.
abbrev pub IsToldAs : Doc → List ℕ → Ran → Type 0
IsToldAs D lines (Given doc run) = ⊥
IsToldAs D lines (Own doc run) = (doc ≡ D) × IsToldIn D lines run
IsToldAs D lines (Open doc why) = ⊥
IsToldAs D lines (Not words) = Unit {0}
