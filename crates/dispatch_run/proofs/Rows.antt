-- Small cases of each definition.
use Rattle.std.proofs.Common.{◌≡◌, [], ◌∷◌, None, Some, refl, ℕ, List, inl, inr}
use Rattle.std.specs.Prelude.{codes}
use Rattle.clap.proofs.OnLiterals.{clap_on_literals}
use Rattle.line_service.specs.declared.server.Course.{Course}
use Rattle.line_service.specs.declared.server.Course.TheVariants.{GoesOn, Ends}
use Rattle.line_service.specs.declared.server.ServeFault.TheVariants.{Memory, Write}
use Rattle.live_header.specs.declared.opening.Opened.{Opened}
use Rattle.live_header.specs.Opening.{IsOpened}
use Rattle.live_header.specs.declared.reading.Unread.TheVariants.{NoLive, NoJournal}
use Rattle.live_header.specs.declared.refused.Refused.TheVariants.{Other}
use Rattle.dispatch_run.specs.declared.failure.Failure.TheVariants.{Unread, Header, Broken}
use Rattle.dispatch_run.specs.declared.status.Status.TheVariants as status
use Rattle.dispatch_run.specs.Dispatching.{BreaksOffServing, BreaksOffTalking, IsCause, IsDispatched, IsServed, IsTalk, Sessions, TellsCause, header_of}
use Rattle.dispatch_run.specs.Ending.{code, status_of}
use Rattle.dispatch_run.specs.Report.{Tells, line_of}
use Rattle.dispatch_run.specs.Words.{document_in}

-- without words the document is the first part of standard input
pub no_word : document_in [] ≡ None
no_word = refl

pub one_word : document_in (codes "yard.json" ∷ []) ≡ Some (codes "yard.json")
unfolding clap_on_literals
one_word = refl

-- lines
pub no_live : line_of (Unread NoLive) ≡ codes "dispatch: 300 NoLive\n"
no_live = refl

pub other : line_of (Header Other) ≡ codes "dispatch: 313 Document\n"
other = refl

-- exit codes
pub no_live_code : code (status_of (Unread NoLive)) ≡ 3
no_live_code = refl

pub no_journal_code : code (status_of (Unread NoJournal)) ≡ 9
no_journal_code = refl

pub written_code : code (status_of (Broken Write)) ≡ 8
written_code = refl

-- the error sink failed within the line
pub told : Tells (codes "ab") (Unit {0}) (Some []) (Some (codes "a"))
told = record { prefix = (1, refl); whole = λ never. absurd (never tt) }

-- a failure that had its line, and one for whose line there was no memory
pub tells : TellsCause (Unread NoLive) status.Refused ⊥ (Some []) (Some (codes "dispatch: 300 NoLive\n"))
tells = inl (refl, record { prefix = (21, refl); whole = λ never. refl })

pub tells_memory : TellsCause (Unread NoLive) status.Memory ⊥ (Some []) (Some (codes "dispatch: 202 Memory\n"))
tells_memory = inr (refl, record { prefix = (21, refl); whole = λ never. refl })

-- sessions whose lines have no answer: their first text is `a`, their last `z`
abbrev Silent : ℕ → List ℕ → ℕ → List ℕ → Course → Type 0
Silent from line to text GoesOn = (to ≡ from) × (text ≡ [])
Silent from line to text Ends = ⊥

abbrev silent : Sessions
silent = record {
  State = ℕ;
  answers = Silent;
  last = λ s. codes "z";
  opens = λ s text. text ≡ codes "a";
  begins = λ opened s. s ≡ 0;
}

-- one whose input is a line
pub talk : IsTalk silent 0 (codes "ping\n") (codes "az")
talk = record {
  ready = codes "a";
  opens = refl;
  told = codes "z";
  answered = (0, [], GoesOn, inr (0, [], [], (refl, refl), (refl, refl, refl), refl), refl);
  whole = refl;
}

pub served : (opened : Opened) → IsServed silent opened (codes "ping\n") (codes "az")
served opened = record { session = 0; begun = refl; talk = talk }

-- the input of one, with its header
pub dispatched : (opened : Opened) → IsOpened (header_of [] (codes "{}\njournal\nlive\nping\n")) opened
    → IsDispatched silent [] (codes "{}\njournal\nlive\nping\n") (codes "az")
dispatched opened opens = record { whole = refl; opened = opened; opens = opens; served = served opened }

-- without memory for the first text nothing is written, nor without memory for the session
pub no_talk : BreaksOffTalking silent 0 [] ⊥ ⊥ (Some []) (Some []) Memory
no_talk = inl (refl, refl)

pub unbegun : (opened : Opened) → BreaksOffServing silent opened [] ⊥ ⊥ (Some []) (Some []) Memory
unbegun opened = inl (refl, refl)

-- without a line `live` neither
pub no_session : IsCause silent [] (codes "{}\njournal\n") (Unit {0}) ⊥ ⊥ (Some []) (Some []) (Unread NoLive)
no_session = ((refl, tt), refl)
