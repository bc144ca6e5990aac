-- Sessions: requests that are served one after another, with reports and without.
use Rattle.std.specs.Prelude.{◌≡◌, List, [], ◌∷◌, ◌++◌, Bool, true, false, None}
use Rattle.std.specs.List.{All}
use Rattle.rail_model.specs.declared.types.Line.{Line}
use Rattle.rail_model.specs.Journal.{IsRight, after_lines}
use Rattle.plain_yard.specs.Keeps.{PlainRun}
use Rattle.live_yard.specs.declared.requests.Reply.{Reply}
use Rattle.live_yard.specs.declared.requests.Reply.TheVariants.{Elsewhere, NotThere, NoReports, TriedBefore, TooSoon}
use Rattle.live_yard.specs.declared.requests.Reply.TheVariants.{NoTable}
use Rattle.live_yard.specs.declared.requests.Request.{Request}
use Rattle.live_yard.specs.declared.requests.Request.TheVariants.{Ask, Table}
use Rattle.live_yard.specs.declared.requests.Served.{Served}
use Rattle.live_yard.specs.Answers.{IsServed}
use Rattle.live_yard.specs.Firing.{DispatchState}
use Rattle.live_yard.specs.Reported.{forgotten}

-- Each request is served at the state after those before it.
abbrev pub IsSession : DispatchState → List Request → List Served → DispatchState → Type 0
IsSession v [] [] w = w ≡ v
IsSession v (request ∷ later) (served ∷ rest) w = (u : DispatchState) × IsServed v request served u
    × IsSession u later rest w
IsSession v _ _ w = ⊥

-- the same state of a session without reports, where no want stands: each train is where it was granted
abbrev pub plain : DispatchState → DispatchState
plain v = record { yard = forgotten v.yard; wants = [] }

-- A train asks for its next place, or the next table is tried.
abbrev pub IsPlain : Request → Type 0
IsPlain (Ask i named) = named ≡ None
IsPlain (Table named) = named ≡ None
IsPlain _ = ⊥

-- There is a session without reports and wants from one state to another, whose grants and lines are therefore the
-- same.
pub record PlainSession (v w : DispatchState) : Type 0 where
  pub requests : List Request
  pub served : List Served
  pub plain_requests : All IsPlain requests
  pub session : IsSession (plain v) requests served (plain w)

-- A run goes on by these lines: each is right where it stands, and they lead to the state after them.
pub record GoesOn (a : PlainRun) (added : List Line) (b : PlainRun) : Type 0 where
  pub tables : b.tables ≡ a.tables
  pub lines : b.lines ≡ a.lines ++ added
  pub right : IsRight a.tables a.yard added
  pub leads : b.yard ≡ after_lines a.yard added

-- whether a reply refuses a request, or repeats an answer that was given before
abbrev pub is_refusal : Reply → Bool
is_refusal (Elsewhere place) = true
is_refusal (NotThere at) = true
is_refusal NoReports = true
is_refusal (TriedBefore n) = true
is_refusal (TooSoon tried) = true
is_refusal (NoTable n) = true
is_refusal _ = false
