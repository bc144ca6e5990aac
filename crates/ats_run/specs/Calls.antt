-- What the contract of the whole call says of its words, its input and what was written.
use Rattle.std.specs.Prelude.{◌≡◌, ℕ, List, String, Option, Some, IfSome, map, string_bytes}
use Rattle.ats_words.specs.declared.orders.Order.{Order}
use Rattle.ats_words.specs.declared.orders.Order.TheVariants.{Run, Drill}
use Rattle.document_generator.specs.Generated.{generated}
use Rattle.rail_model.specs.Yard.{opening}
use Rattle.shared_run.specs.declared.crews.Crew.{Crew}
use Rattle.shared_run.specs.Crews.{crew_of}
use Rattle.ats_answers.specs.declared.status.Status.{Status}
use Rattle.ats_answers.specs.declared.status.Status.TheVariants.{Done}
use Rattle.accepted_documents.specs.Accepting.{IsDocWith}
use Rattle.ats_answers.specs.Suited.{IsAcceptedInput}
use Rattle.ats_run.specs.Complete.{IsGoodInput}
use Rattle.ats_run.specs.Headline.{IsRun, IsRoundRobin}
use Rattle.ats_run.specs.Orders.{order_of, OnInput, HoldsInput, MakesCertificates}

-- what the words of a command line ask for, or None where they are refused
abbrev pub asked : {A : Type 0} → List (String A) → Option Order
asked line = order_of (map string_bytes line)

-- What follows where the call ends well and its words ask for this order.
abbrev pub OnDone : Status → Option Order → Order → Type 0 → Type 0
OnDone status wanted order Follows = status ≡ Done → wanted ≡ Some order → Follows

-- What follows of the crew where the call ends well and its words ask for a run.
abbrev pub OnRun : Status → Option Order → (Crew → Type 0) → Type 0
OnRun status wanted Follows =
    (workers rounds block : ℕ) → status ≡ Done → wanted ≡ Some (Run workers rounds block) → Follows (crew_of workers rounds block)

-- What follows of the generated document where the call ends well and its words ask for a drill.
abbrev pub OnDrill : Status → Option Order → (List ℕ → Type 0) → Type 0
OnDrill status wanted Follows =
    (seed trains workers : ℕ) → status ≡ Done → wanted ≡ Some (Drill seed trains workers) → Follows (generated seed trains)

-- Bytes were written of which the fact holds.
abbrev pub Wrote : (List ℕ → Type 0) → (List ℕ → Type 0) → Type 0
Wrote Taken P = (written : List ℕ) × P written × Taken written

-- Bytes were written of which the fact holds, with the bytes that the source held.
abbrev pub WroteFor : Option (List ℕ) → (List ℕ → Type 0) → (List ℕ → List ℕ → Type 0) → Type 0
WroteFor held Taken P = IfSome held (λ input. Wrote Taken (P input))

-- The input is a document, and the bytes are the text of a run of it.
abbrev pub IsRunOf : List ℕ → List ℕ → Type 0
IsRunOf input written = IsDocWith input (λ D. IsRun D written)

-- The input is a document, and the bytes are the text of its run by the round robin.
abbrev pub IsRoundRobinOf : List ℕ → List ℕ → Type 0
IsRoundRobinOf input written =
    IsDocWith input (λ D. (run : IsRun D written) × IsRoundRobin D (opening D.start) run.journal.lines)

-- An order that makes certificates has written a document whose every table accepts its certificate.
abbrev pub WroteDocument : Order → Option (List ℕ) → (List ℕ → Type 0) → Type 0
WroteDocument order held Taken = MakesCertificates order → OnInput order held (λ input. Wrote Taken IsAcceptedInput)

-- What follows where the input suits the order that the words ask for.
abbrev pub OnGoodInput : Option Order → Option (List ℕ) → Type 0 → Type 0
OnGoodInput wanted held Follows =
    (order : Order) (input : List ℕ) → wanted ≡ Some order → HoldsInput order held input → IsGoodInput order input → Follows
