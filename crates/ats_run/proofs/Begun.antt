-- Runs that have begun: what is printed of their end is what the order comes to.
use Rattle.std.proofs.Common.{◌≡◌, ◌⊎◌, ◌≤◌, ℕ, List, [], length, refl, sym, subst, inl, arith, lit≤, Vec, Global}
use Rattle.std.specs.Prelude.{Result, Ok, Err, IfOk, IfErr, MatchResult}
use Rattle.ats_words.specs.declared.orders.Order.{Order}
use Rattle.ats_words.specs.declared.orders.Order.TheVariants.{Run, Resume, Drill}
use Rattle.ats_words.specs.Subcommands.{HasItsNumbers}
use Rattle.rail_model.specs.Certificate.{Tree}
use Rattle.rail_model.specs.Plain.{Plain}
use Rattle.rail_model.specs.Yard.{opening}
use Rattle.rail_model.specs.Journal.{Journal, IsRight, after_lines, with_counts}
use Rattle.plain_yard.specs.Keeps.{Keeps}
use Rattle.move_journal.specs.Answers.{IsFrontOf}
use Rattle.shared_run.specs.declared.crews.Crew.{Crew}
use Rattle.shared_run.specs.Crews.{IsCrew}
use Rattle.document_json.specs.Doc.{Doc, IsDoc, offers_of, names_of}
use Rattle.document_json.specs.Reading.{doc_of}
use Rattle.document_json.proofs.Offered.{legal_start}
use Rattle.ats_answers.specs.declared.failure.Failure.{Failure}
use Rattle.ats_answers.specs.declared.failure.Failure.TheVariants.{Memory as NoMemory}
use Rattle.accepted_documents.specs.declared.accepting.Checked.{Checked}
use Rattle.ats_run.specs.declared.tasks.Begun.{Begun}
use Rattle.ats_run.specs.declared.tasks.Printout.TheVariants as printout
use Rattle.ats_run.specs.declared.tasks.Task.{Task}
use Rattle.ats_run.specs.declared.tasks.Task.TheVariants.{Goes, Printed}
use Rattle.accepted_documents.specs.Accepting.{AreAccepted}
use Rattle.ats_answers.specs.Checking.{nodes_below}
use Rattle.ats_run.specs.Command.{Comes, IsRunInput, IsResumedInput}
use Rattle.ats_run.specs.Drilling.{IsDrilled}
use Rattle.ats_run.specs.Headline.{Ends, plain_after}
use Rattle.ats_answers.specs.Journals.{IsCutAt, document_part, journal_part}
use Rattle.ats_run.specs.Orders.{crew_in}
use Rattle.ats_run.specs.Tasks.{EndsWith, LeadsTo, TaskLeads, IsPrinted}
use Rattle.ats_run.proofs.Drilled.{drilled}
use Rattle.ats_run.proofs.Inputs.{resumed_input}
use Rattle.ats_run.proofs.Resumed.{resumed_front}
use Rattle.ats_run.proofs.Runs.{runs}

pub begun_keeps : (D : Doc) (from : Plain) → IsDoc D → from ≡ plain_after D [] → Keeps (offers_of D) from.yard from.lines
begun_keeps D from doc is = subst (λ (s : Plain). Keeps (offers_of D) s.yard s.lines) (sym is)
    (record { are = doc.tables; start = D.start; legal = legal_start D doc; right = tt; reached = refl })

-- where a run of the document begins
pub begun_at : (D : Doc) (start : List ℕ) → start ≡ D.start → ◌≡◌ {A = Plain} (record { yard = opening start; lines = [] }) (plain_after D [])
begun_at D start same = λ i. record { yard = opening (same i); lines = [] }

pub run_leads : (D : Doc) (trees : List Tree) (crew : Crew) (input : List ℕ) (from : Plain) → IsDoc D → AreAccepted D trees → doc_of input ≡ Ok D → from ≡ plain_after D []
    → LeadsTo crew printout.Journal (λ written. IsRunInput crew input written) D trees from
run_leads D trees crew input from doc accepted read is = record {
  formed = doc;
  keeps = begun_keeps D from doc is;
  few = accepted.are.one_each;
  leads = λ end written ends keeps printed.
      (D, read, runs D trees crew end written doc accepted (subst (λ (s : Plain). Ends D crew s end) is ends) printed);
}

pub drill_leads : (D : Doc) (trees : List Tree) (crew : Crew) (from : Plain) → IsDoc D → AreAccepted D trees → from ≡ plain_after D [] → length D.tables ≡ 1
    → LeadsTo crew printout.Counts (λ written. IsDrilled D crew written) D trees from
drill_leads D trees crew from doc accepted is one = record {
  formed = doc;
  keeps = begun_keeps D from doc is;
  few = accepted.are.one_each;
  leads = λ end written ends keeps printed.
      drilled D trees crew end (with_counts end.lines) (length D.trains) (nodes_below trees (length trees)) written doc one accepted keeps
      (subst (λ (s : Plain). Ends D crew s end) is ends) refl refl refl printed;
}

pub front_leads : (D : Doc) (trees : List Tree) (crew : Crew) (input document given : List ℕ) (front : Journal) (from : Plain) → IsDoc D → AreAccepted D trees
    → (k : ℕ) × IsCutAt input k × (document ≡ document_part input k) × (given ≡ journal_part input k) → doc_of document ≡ Ok D → IsFrontOf (names_of D) given front
    → IsRight (offers_of D) (opening D.start) front.lines → from.yard ≡ after_lines (opening D.start) front.lines → from.lines ≡ front.lines
    → Keeps (offers_of D) from.yard from.lines → LeadsTo crew printout.Journal (λ written. IsResumedInput crew input written) D trees from
front_leads D trees crew input document given front from doc accepted cut read is_front right reached same keeps = record {
  formed = doc;
  keeps = keeps;
  few = accepted.are.one_each;
  leads = λ end written ends kept printed.
      resumed_input crew input document given written cut D read
      (resumed_front D trees crew front given written from end doc accepted is_front right reached same ends printed);
}

-- bytes that are printed already
pub printed_leads : (crew : Crew) (P : List ℕ → Type 0) (task : Task) (written : List ℕ) → IsPrinted task written → P written → TaskLeads crew P task
printed_leads crew P (Goes checked run) written is said = absurd is
printed_leads crew P (Printed text) written is said = subst P (sym is) said

-- what is printed of the end of an order's run is what the order comes to
pub ended : (order : Order) (input : List ℕ) (task : Task) (checked : Checked) (run : Begun) → task ≡ Goes checked run
    → TaskLeads (crew_in order) (λ written. Comes order input (Ok written)) task
    → (result : Result (Vec ℕ Global) Failure) → IfOk result (λ text. EndsWith checked.doc checked.certs.items run text.items) → IfErr result (λ e. e ≡ NoMemory)
    → MatchResult result (λ text. Comes order input (Ok text.items)) (λ e. (e ≡ NoMemory) ⊎ Comes order input (Err e))
ended order input task checked run is leads (Ok text) ends memory =
    let goes = subst (TaskLeads (crew_in order) (λ written. Comes order input (Ok written))) is leads in
    goes.2.leads ends.end text.items (subst (λ (crew : Crew). Ends checked.doc crew run.from ends.end) goes.0 ends.ends) ends.keeps ends.printed
ended order input task checked run is leads (Err e) ends memory = inl memory

-- a crew with workers that an order names can run trains
pub is_crew : (order : Order) → HasItsNumbers order → 1 ≤ (crew_in order).workers → IsCrew (crew_in order)
is_crew (Run w r b) numbers some = record { some = some; few = numbers.0.1; rounds = numbers.1.1; asks = numbers.2.0; block = numbers.2.1 }
is_crew (Resume w r b) numbers some = record { some = some; few = numbers.0.1; rounds = numbers.1.1; asks = numbers.2.0; block = numbers.2.1 }
is_crew (Drill s n w) numbers some = record { some = some; few = numbers.2.1; rounds = lit≤ tt; asks = lit≤ tt; block = lit≤ tt }
is_crew order numbers some = absurd (omega (arith, some))
