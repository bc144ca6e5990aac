-- What words ask for, and what each order reads.
use Rattle.std.specs.Prelude.{◌≡◌, ℕ, List, [], Option, Some, IfSome}
use Rattle.clap.specs.Words.{Text}
use Rattle.ats_words.specs.Words.{words}
use Rattle.ats_words.specs.declared.orders.Order.{Order}
use Rattle.ats_words.specs.declared.orders.Order.TheVariants.{Run, Resume, Make, Derive, Repair, Generate, Drill}
use Rattle.shared_run.specs.declared.crews.Crew.{Crew}
use Rattle.shared_run.specs.Crews.{crew_of}

-- what the words ask for, or None where they are refused
abbrev pub order_of : List Text → Option Order
order_of line = words line

-- The order reads its input.
abbrev pub Reads : Order → Type 0
Reads (Generate seed trains) = ⊥
Reads (Drill seed trains workers) = ⊥
Reads order = Unit {0}

-- The fact of the bytes that the source held, where they are known; an order that reads nothing has the empty input.
abbrev pub OnInput : Order → Option (List ℕ) → (List ℕ → Type 0) → Type 0
OnInput (Generate seed trains) held P = P []
OnInput (Drill seed trains workers) held P = P []
OnInput order held P = IfSome held P

-- The input is what the source held, or the empty one where nothing is read.
abbrev pub HoldsInput : Order → Option (List ℕ) → List ℕ → Type 0
HoldsInput (Generate seed trains) held input = input ≡ []
HoldsInput (Drill seed trains workers) held input = input ≡ []
HoldsInput order held input = held ≡ Some input

-- The order makes certificates, and writes a document with them.
abbrev pub MakesCertificates : Order → Type 0
MakesCertificates (Make budget) = Unit {0}
MakesCertificates (Derive most budget) = Unit {0}
MakesCertificates (Repair budget rounds) = Unit {0}
MakesCertificates (Generate seed trains) = Unit {0}
MakesCertificates order = ⊥

-- who runs the trains of a drill
abbrev pub drill_crew : ℕ → Crew
drill_crew workers = crew_of workers 1000 1

-- who runs the trains of an order: no workers, where it says nothing of them
abbrev pub crew_in : Order → Crew
crew_in (Run workers rounds block) = crew_of workers rounds block
crew_in (Resume workers rounds block) = crew_of workers rounds block
crew_in (Drill seed trains workers) = drill_crew workers
crew_in order = crew_of 0 0 1

-- No worker runs the order's trains, so it waits for nobody.
abbrev pub IsAlone : Order → Type 0
IsAlone order = (crew_in order).workers ≡ 0
