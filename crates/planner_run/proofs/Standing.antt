-- What an order comes to on an input, told by what it comes to on the document that stands for it.
use Rattle.std.proofs.Common.{◌≡◌, inr, refl, ℕ, List, [], Option, Some, String, Vec, Global, subst}
use Rattle.plan_input.specs.Standing.{IsStanding, Stands}
use Rattle.plan_input.specs.declared.origin.PlanFile.{PlanFile}
use Rattle.plan_input.specs.declared.standing.Standing.{Standing}
use Rattle.plan_input.specs.declared.standing.Standing.TheVariants.{Itself, Named, Plan as AsDocument, Wrong as Mistaken}
use Rattle.planner_words.specs.declared.orders.Order.{Order}
use Rattle.planner_words.specs.declared.orders.Order.TheVariants.{Plan as OfPlan, ExplainState, ExplainLine, Lint, Certify, Protect, AddOrders, OrderByRun, Timetable, Graph, Report, CompareWith, CompareDelayed, Layout}
use Rattle.planner_run.specs.Answered.{HasNotes, IsAnswerFor, IsMadeFor, IsSuspected, IsWorkedOn, WorksOn}
use Rattle.planner_run.specs.declared.answer.Answer.{Answer}
use Rattle.planner_run.specs.declared.answer.Answer.TheVariants.{Text, Remarks, Noted, Wrong}
use denote.Ref.{Bor}

-- an order that isn't `plan` works on the document that stands for its input
works_on_standing : (order : Order) (plan : Option (Bor PlanFile)) (input text : List ℕ) (names : List (Vec (String Global) Global)) → (order ≡ OfPlan → ⊥) →
    Stands plan input text names → WorksOn order plan input text names
works_on_standing OfPlan plan input text names other stands = absurd (other refl)
works_on_standing (ExplainState table at run file) plan input text names other stands = stands
works_on_standing (ExplainLine line file) plan input text names other stands = stands
works_on_standing (Lint before file) plan input text names other stands = stands
works_on_standing (Certify budget effort) plan input text names other stands = stands
works_on_standing (Protect budget effort rounds output) plan input text names other stands = stands
works_on_standing (AddOrders output) plan input text names other stands = stands
works_on_standing (OrderByRun seed journal output) plan input text names other stands = stands
works_on_standing (Timetable csv journal delay) plan input text names other stands = stands
works_on_standing (Graph train journal blocks delay) plan input text names other stands = stands
works_on_standing (Report title journal delay) plan input text names other stands = stands
works_on_standing (CompareWith csv file) plan input text names other stands = stands
works_on_standing (CompareDelayed csv delay) plan input text names other stands = stands
works_on_standing (Layout table at file) plan input text names other stands = stands

pub worked_on : (order : Order) (plan : Option (Bor PlanFile)) (input : List ℕ) (found : Standing) → (order ≡ OfPlan → ⊥) → IsStanding plan input found →
    IsWorkedOn order plan input found
worked_on order plan input Itself other stands = works_on_standing order plan input input [] other stands
worked_on order plan input (Named names) other stands = works_on_standing order plan input input names.items other stands
worked_on order plan input (AsDocument text names) other stands = works_on_standing order plan input text.items names.items other stands
worked_on order plan input (Mistaken lines) other stands = stands

-- notes on what an order works on are notes on its input
notes_there : (order : Order) (plan : Option (Bor PlanFile)) (input document : List ℕ) (names : List (Vec (String Global) Global)) → WorksOn order plan input document names →
    HasNotes order (Some document) → HasNotes order (Some input)
notes_there OfPlan plan input document names works notes = subst IsSuspected works.0 notes
notes_there (Protect budget effort rounds output) plan input document names works notes = tt
notes_there (AddOrders output) plan input document names works notes = tt
notes_there (OrderByRun seed journal output) plan input document names works notes = tt
notes_there (ExplainState table at run file) plan input document names works notes = absurd notes
notes_there (ExplainLine line file) plan input document names works notes = absurd notes
notes_there (Lint before file) plan input document names works notes = absurd notes
notes_there (Certify budget effort) plan input document names works notes = absurd notes
notes_there (Timetable csv journal delay) plan input document names works notes = absurd notes
notes_there (Graph train journal blocks delay) plan input document names works notes = absurd notes
notes_there (Report title journal delay) plan input document names works notes = absurd notes
notes_there (CompareWith csv file) plan input document names works notes = absurd notes
notes_there (CompareDelayed csv delay) plan input document names works notes = absurd notes
notes_there (Layout table at file) plan input document names works notes = absurd notes

module _ (order : Order) (former : Option (Bor (List ℕ))) (plan : Option (Bor PlanFile)) (input document : List ℕ) (names : List (Vec (String Global) Global))
    (works : WorksOn order plan input document names) where
  -- the answer for what an order works on is its answer to the input
  pub answer_there : (a : Answer) → IsAnswerFor order former document names a → IsMadeFor order former plan input a
  answer_there (Text text) is = record { document = document; names = names; works = works; is_text = is }
  answer_there (Remarks lines) is = is
  answer_there (Noted text lines) is =
      (notes_there order plan input document names works is.0, record { document = document; names = names; works = works; is_text = is.1 })
  answer_there (Wrong lines) is = inr (record { document = document; names = names; works = works; are_wrong = is })
