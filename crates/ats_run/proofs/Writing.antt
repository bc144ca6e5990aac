-- What an order writes that writes a document.
use Rattle.std.proofs.Common.{◌≡◌, ℕ, List, Option, Some, sym, ◌∙◌, subst}
use Rattle.std.specs.Prelude.{Ok, IfSome}
use Rattle.ats_words.specs.declared.orders.Order.{Order}
use Rattle.ats_words.specs.declared.orders.Order.TheVariants.{Run, Make, Derive, Repair, Generate, Drill}
use Rattle.document_json.specs.Replaced.{replaced}
use Rattle.rail_model.specs.Yard.{opening}
use Rattle.shared_run.specs.Crews.{crew_of}
use Rattle.ats_run.specs.Causes.{IsServed}
use Rattle.accepted_documents.specs.Accepting.{IsDocWith}
use Rattle.ats_run.specs.Command.{Comes, IsRunInput, IsAnyDrill}
use Rattle.ats_answers.specs.Suited.{IsAcceptedInput}
use Rattle.ats_run.specs.Headline.{IsRun, IsRoundRobin}
use Rattle.ats_answers.specs.Making.{full_budget, trees_in}
use Rattle.ats_run.specs.Orders.{OnInput, MakesCertificates, drill_crew}
use Rattle.document_generator.specs.Generated.{generated}
use Rattle.ats_run.proofs.Drilled.{any_drill}
use Rattle.ats_answers.proofs.AcceptedText.{accepted_input, made_input}
use Rattle.ats_run.proofs.Reading.{if_weaker, on_weaker}

-- a document whose tables accept their certificates
pub writes_accepted : (order : Order) (input written : List ℕ) → MakesCertificates order → Comes order input (Ok written) → IsAcceptedInput written
writes_accepted (Make b) input written w h = made_input h.0 b written h.2
writes_accepted (Derive m b) input written w h = accepted_input (replaced h.0 h.2.parts) (trees_in h.2.parts) written h.2.text
writes_accepted (Repair b r) input written w h = accepted_input (replaced h.0 h.2.parts) (trees_in h.2.parts) written h.2.text
writes_accepted (Generate s n) input written w h = made_input h.0 full_budget written h.2
writes_accepted order input written w h = absurd w

-- what an order has written that makes certificates, and was taken
written_of : (order : Order) (held : Option (List ℕ)) (Taken : List ℕ → Type 0) → MakesCertificates order
    → OnInput order held (λ input. (written : List ℕ) × Comes order input (Ok written) × Taken written)
    → OnInput order held (λ input. (written : List ℕ) × IsAcceptedInput written × Taken written)
written_of order held Taken w h =
    on_weaker order held (λ input. (written : List ℕ) × Comes order input (Ok written) × Taken written)
    (λ input. (written : List ℕ) × IsAcceptedInput written × Taken written)
    (λ input k. (k.0, writes_accepted order input k.0 w k.1, k.2)) h

module _ (asked : Option Order) (held left : Option (List ℕ)) (Taken : List ℕ → Type 0) where
  -- what the order comes to that was asked for was taken
  served : (order : Order) → asked ≡ Some order → IsServed asked held left Taken
      → OnInput order held (λ input. (written : List ℕ) × Comes order input (Ok written) × Taken written)
  served order is done =
      let both = sym done.1 ∙ is in
      let same : done.0 ≡ order = cc in
      subst (λ (o : Order). OnInput o held (λ input. (written : List ℕ) × Comes o input (Ok written) × Taken written)) same done.3

  pub documents : (order : Order) → asked ≡ Some order → MakesCertificates order → IsServed asked held left Taken
      → OnInput order held (λ input. (written : List ℕ) × IsAcceptedInput written × Taken written)
  documents order is w done = written_of order held Taken w (served order is done)

  -- a run, whatever made its lines
  pub runs : (workers rounds block : ℕ) → asked ≡ Some (Run workers rounds block) → IsServed asked held left Taken
      → IfSome held (λ input. (written : List ℕ) × IsDocWith input (λ D. IsRun D written) × Taken written)
  runs workers rounds block is done = if_weaker held _ _ (λ input k. (k.0, (k.1.0, k.1.1, k.1.2.0), k.2)) (served (Run workers rounds block) is done)

  -- a run on one thread
  pub runs_alone : (rounds block : ℕ) → asked ≡ Some (Run 0 rounds block) → IsServed asked held left Taken
      → IfSome held (λ input. (written : List ℕ) × IsDocWith input (λ D. (run : IsRun D written) × IsRoundRobin D (opening D.start) run.journal.lines) × Taken written)
  runs_alone rounds block is done = served (Run 0 rounds block) is done

  -- a run by a crew
  pub runs_by : (workers rounds block : ℕ) → asked ≡ Some (Run workers rounds block) → IsServed asked held left Taken
      → IfSome held (λ input. (written : List ℕ) × IsRunInput (crew_of workers rounds block) input written × Taken written)
  runs_by workers rounds block is done = served (Run workers rounds block) is done

  -- a drill
  pub drills : (seed trains workers : ℕ) → asked ≡ Some (Drill seed trains workers) → IsServed asked held left Taken
      → (written : List ℕ) × IsAnyDrill (generated seed trains) written × Taken written
  drills seed trains workers is done =
      let wrote = served (Drill seed trains workers) is done in
      let counted = wrote.1 in
      (wrote.0, (counted.0, counted.1, (counted.2.0, counted.2.1, any_drill counted.2.0 (drill_crew workers) wrote.0 counted.2.2)), wrote.2)
