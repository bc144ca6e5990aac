-- The live dispatcher's sessions.
use Rattle.std.specs.Prelude.{string_bytes}
use Rattle.live_session.specs.Answering.{Answers, IsOpening, last_text}
use Rattle.live_session.specs.States.{SessionState}
use Rattle.dispatch_run.specs.Dispatching.{Sessions}
use Rattle.dispatch_run.specs.Restoring.{HasBegun}

-- the sessions: each begins at the state that a header's journal leads to, and a line is answered by the dispatcher
abbrev pub live_sessions : Sessions
live_sessions = record {
  State = SessionState;
  answers = Answers;
  last = last_text;
  opens = IsOpening;
  begins = λ opened s. HasBegun opened.doc (string_bytes opened.hash) opened.state opened.reports s;
}
