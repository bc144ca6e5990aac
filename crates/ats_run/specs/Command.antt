-- What each command comes to on the bytes of its input: the bytes that it prints, or the refusal.
use Rattle.std.specs.Prelude.{ℕ, List, [], Result, Ok, Err}
use Rattle.ats_words.specs.declared.orders.Order.{Order}
use Rattle.ats_words.specs.declared.orders.Order.TheVariants.{Run, Resume, Check, Verify, Migrate, Make, Derive, Repair, Simulate, Generate, Drill, Weave}
use Rattle.document_generator.specs.Generated.{generated}
use Rattle.shared_run.specs.declared.crews.Crew.{Crew}
use Rattle.shared_run.specs.Crews.{crew_of}
use Rattle.ats_answers.specs.declared.failure.Failure.{Failure}
use Rattle.accepted_documents.specs.Accepting.{IsDocWith}
use Rattle.ats_answers.specs.Checking.{WritesChecked}
use Rattle.ats_run.specs.Resuming.{IsResumed}
use Rattle.ats_answers.specs.Making.{full_budget, IsMade}
use Rattle.ats_run.specs.Drilling.{IsDrilled, IsDrillLine}
use Rattle.ats_run.specs.Headline.{IsRun, IsRunBy}
use Rattle.ats_answers.specs.Deriving.{IsDerived}
use Rattle.ats_answers.specs.Migrating.{IsMigratedText}
use Rattle.ats_run.specs.Orders.{drill_crew}
use Rattle.ats_answers.specs.Repairing.{IsRepaired}
use Rattle.ats_answers.specs.Simulating.{IsSimulated}
use Rattle.ats_answers.specs.Weaving.{IsWoven}
use Rattle.ats_answers.specs.Journals.{IsPairWith, IsVerifiedInput}
use Rattle.ats_answers.specs.Refusing.{RefusesDocument, RefusesCheck, RefusesVerify, RefusesResume, RefusesMake, RefusesDerive, RefusesRepair}

-- The input is a document and a journal or its front, from which its run goes on by a crew.
abbrev pub IsResumedInput : Crew → List ℕ → List ℕ → Type 0
IsResumedInput crew input written = IsPairWith input (λ D given. IsResumed D crew given written)

-- The bytes are a document, whose run by a crew is written.
abbrev pub IsRunInput : Crew → List ℕ → List ℕ → Type 0
IsRunInput crew input written = IsDocWith input (λ D. (run : IsRun D written) × IsRunBy D crew [] run.journal.lines)

-- The certificates of the document are made, and the run of the document so made, by a crew, is counted.
abbrev pub IsDrilledInput : Crew → List ℕ → List ℕ → Type 0
IsDrilledInput crew input written =
    (made : List ℕ) × IsDocWith input (λ D. IsMade D full_budget made) × IsDocWith made (λ D. IsDrilled D crew written)

-- The line of every drill of the document, whoever runs its trains.
abbrev pub IsAnyDrill : List ℕ → List ℕ → Type 0
IsAnyDrill input written = (made : List ℕ) × IsDocWith input (λ D. IsMade D full_budget made) × IsDocWith made (λ D. IsDrillLine D written)

-- What a command comes to.
abbrev pub Comes : Order → List ℕ → Result (List ℕ) Failure → Type 0
Comes (Run workers rounds block) input (Ok written) = IsRunInput (crew_of workers rounds block) input written
Comes (Run workers rounds block) input (Err e) = RefusesCheck input e
Comes Check input (Ok written) = IsDocWith input (λ D. WritesChecked D written)
Comes Check input (Err e) = RefusesCheck input e
Comes Verify input (Ok written) = IsVerifiedInput input written
Comes Verify input (Err e) = RefusesVerify input e
Comes (Resume workers rounds block) input (Ok written) = IsResumedInput (crew_of workers rounds block) input written
Comes (Resume workers rounds block) input (Err e) = RefusesResume input e
Comes Migrate input (Ok written) = IsDocWith input (λ D. IsMigratedText D written)
Comes Migrate input (Err e) = RefusesDocument input e
Comes (Make budget) input (Ok written) = IsDocWith input (λ D. IsMade D budget written)
Comes (Make budget) input (Err e) = RefusesMake input budget e
Comes (Derive most budget) input (Ok written) = IsDocWith input (λ D. IsDerived D most budget written)
Comes (Derive most budget) input (Err e) = RefusesDerive input most budget e
Comes (Repair budget rounds) input (Ok written) = IsDocWith input (λ D. IsRepaired D budget rounds written)
Comes (Repair budget rounds) input (Err e) = RefusesRepair input budget rounds e
Comes Simulate input (Ok written) = IsDocWith input (λ D. IsSimulated D written)
Comes Simulate input (Err e) = RefusesCheck input e
Comes (Generate seed trains) input (Ok written) = IsDocWith (generated seed trains) (λ D. IsMade D full_budget written)
Comes (Generate seed trains) input (Err e) = RefusesMake (generated seed trains) full_budget e
Comes (Drill seed trains workers) input (Ok written) = IsDrilledInput (drill_crew workers) (generated seed trains) written
Comes (Drill seed trains workers) input (Err e) = RefusesMake (generated seed trains) full_budget e
Comes (Weave seed turns) input (Ok written) = IsDocWith input (λ D. (run : IsRun D written) × IsWoven D seed turns run.journal.lines)
Comes (Weave seed turns) input (Err e) = RefusesCheck input e
