-- A session that was served, and one that broke off.
use Rattle.std.proofs.Common.{◌⊎◌, ℕ, List, [], ◌++◌, None, Some, Result, Ok, Err, refl, inl, inr}
use Rattle.std.specs.Prelude.{Option, IfErr, IfSome, OnOk}
use Rattle.std.specs.Io.KnownBytes.{Consumes}
use Rattle.std.proofs.KnownBytes.{Consumes-nil}
use Rattle.ats_io.specs.Bytes.{Adds}
use Rattle.line_service.proofs.ServedBytes.{adds_nothing}
use Rattle.line_service.specs.declared.server.ServeFault.{ServeFault}
use Rattle.line_service.specs.declared.server.ServeFault.TheVariants.{Memory}
use Rattle.line_service.specs.Answered.{IsEndless, IsSession}
use Rattle.live_header.specs.declared.opening.Opened.{Opened}
use Rattle.dispatch_run.specs.Conversing.{StopsTalking}
use Rattle.dispatch_run.specs.Dispatching.{BreaksOffServing, BreaksOffTalking, IsServed, IsTalk, Sessions}

module _ (Q : Sessions) where
  -- without memory for the first text nothing is heard and nothing is written
  pub no_talk : (session : Q.State) (bytes : List ℕ) (source_failed sink_failed : Type 0) (held old : Option (List ℕ))
      → (heard : List ℕ) × Consumes held held heard
      × BreaksOffTalking Q session (bytes ++ heard) (source_failed ⊎ IsEndless heard) sink_failed old old Memory
  no_talk session bytes source_failed sink_failed held old = ([], Consumes-nil held, inl (refl, adds_nothing old))

  -- and so where there is none for the session
  pub unbegun : (opened : Opened) (bytes : List ℕ) (source_failed sink_failed : Type 0) (held old : Option (List ℕ))
      → (heard : List ℕ) × Consumes held held heard
      × BreaksOffServing Q opened (bytes ++ heard) (source_failed ⊎ IsEndless heard) sink_failed old old Memory
  unbegun opened bytes source_failed sink_failed held old = ([], Consumes-nil held, inl (refl, adds_nothing old))

  -- a session that ended well
  pub talked_well : (session : Q.State) (ready first : List ℕ) (held old new : Option (List ℕ))
      (result : Result (Unit {0}) ServeFault)
      → Q.opens session ready
      → OnOk result (IfSome held (λ input. (text : List ℕ) × IsSession Q.answers Q.last session (first ++ input) text
      × Adds old new (ready ++ text)))
      → OnOk result (IfSome held (λ input. (written : List ℕ) × IsTalk Q session (first ++ input) written
      × Adds old new written))
  talked_well session ready first held old new (Err e) opens told = tt
  talked_well session ready first None old new (Ok done) opens told = tt
  talked_well session ready first (Some input) old new (Ok done) opens (text, answered, adds) = (
    ready ++ text,
    record { ready = ready; opens = opens; told = text; answered = answered; whole = refl },
    adds,
  )

  pub served_well : (opened : Opened) (session : Q.State) (first : List ℕ) (held old new : Option (List ℕ))
      (result : Result (Unit {0}) ServeFault)
      → Q.begins opened session
      → OnOk result (IfSome held (λ input. (written : List ℕ) × IsTalk Q session (first ++ input) written
      × Adds old new written))
      → OnOk result (IfSome held (λ input. (written : List ℕ) × IsServed Q opened (first ++ input) written
      × Adds old new written))
  served_well opened session first held old new (Err e) begun told = tt
  served_well opened session first None old new (Ok done) begun told = tt
  served_well opened session first (Some input) old new (Ok done) begun (written, talk, adds) =
      (written, record { session = session; begun = begun; talk = talk }, adds)

  -- a session that broke off
  pub talked_badly : (session : Q.State) (ready first : List ℕ) (source_failed sink_failed : Type 0)
      (held left old new : Option (List ℕ)) (result : Result (Unit {0}) ServeFault)
      → Q.opens session ready
      → IfErr result (λ fault. (heard : List ℕ) × Consumes held left heard
      × StopsTalking Q.answers Q.last session ready (first ++ heard)
      (source_failed ⊎ IsEndless heard) sink_failed old new fault)
      → IfErr result (λ fault. (heard : List ℕ) × Consumes held left heard
      × BreaksOffTalking Q session (first ++ heard) (source_failed ⊎ IsEndless heard) sink_failed old new fault)
  talked_badly session ready first source_failed sink_failed held left old new (Ok done) opens stops = tt
  talked_badly session ready first source_failed sink_failed held left old new (Err e) opens (heard, gave, stops) =
      (heard, gave, inr (ready, opens, stops))

  pub served_badly : (opened : Opened) (session : Q.State) (first : List ℕ) (source_failed sink_failed : Type 0)
      (held left old new : Option (List ℕ)) (result : Result (Unit {0}) ServeFault)
      → Q.begins opened session
      → IfErr result (λ fault. (heard : List ℕ) × Consumes held left heard
      × BreaksOffTalking Q session (first ++ heard) (source_failed ⊎ IsEndless heard) sink_failed old new fault)
      → IfErr result (λ fault. (heard : List ℕ) × Consumes held left heard
      × BreaksOffServing Q opened (first ++ heard) (source_failed ⊎ IsEndless heard) sink_failed old new fault)
  served_badly opened session first source_failed sink_failed held left old new (Ok done) begun breaks = tt
  served_badly opened session first source_failed sink_failed held left old new (Err e) begun (heard, gave, breaks) =
      (heard, gave, inr (session, begun, breaks))
