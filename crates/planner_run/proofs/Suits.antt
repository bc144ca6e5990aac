-- What an order comes to, told by what its answer is.
use Rattle.std.proofs.Common.{◌≡◌, ◌⊎◌, inl, inr, ℕ, List, Option, Some, None, String, Vec, Global, subst}
use Rattle.std.specs.Prelude.{Result, Ok, Err, IfOk, IfSome, string_bytes}
use Rattle.planner_words.specs.declared.orders.Effort.{Effort}
use Rattle.planner_words.specs.declared.orders.Order.{Order}
use Rattle.planner_words.specs.declared.orders.Order.TheVariants.{Plan as OfPlan, ExplainState, ExplainLine, Lint, Certify, Protect, AddOrders, OrderByRun, Timetable, Graph, Report, CompareWith, CompareDelayed, Layout}
use Rattle.planner_words.specs.declared.orders.Output.{Output}
use Rattle.planner_run.specs.Answered.{AreWrongFor, HasNotes, IfText, IsAnswerFor, IsCertifying, IsLinted, IsOrdering, IsOrderingByRun, IsPlanning, IsProtecting, IsSuspected, IsTextFor}
use Rattle.planner_run.specs.declared.answer.Answer.{Answer}
use Rattle.planner_run.specs.declared.answer.Answer.TheVariants.{Text, Remarks, Noted, Wrong}
use denote.Ref.{Bor}

-- for an order of whose faults nothing is said
pub if_text_answers : (order : Order) (former : Option (Bor (List ℕ))) (input : List ℕ) (names : List (Vec (String Global) Global)) (a : Answer) → ((lines : List ℕ) → AreWrongFor order input lines) → IfText (IsTextFor order former input names) a → IsAnswerFor order former input names a
if_text_answers order former input names (Text text) unsaid holds = holds
if_text_answers order former input names (Remarks lines) unsaid holds = absurd holds
if_text_answers order former input names (Noted text lines) unsaid holds = absurd holds
if_text_answers order former input names (Wrong lines) unsaid holds = unsaid (string_bytes lines)

pub planning_answers : (former : Option (Bor (List ℕ))) (input : List ℕ) (names : List (Vec (String Global) Global)) (a : Answer) → IsPlanning input a → IsAnswerFor OfPlan former input names a
planning_answers former input names (Text text) holds = holds
planning_answers former input names (Remarks lines) holds = absurd holds
planning_answers former input names (Noted text lines) holds = holds
planning_answers former input names (Wrong lines) holds = tt

pub certifying_answers : (budget : ℕ) (effort : Effort) (former : Option (Bor (List ℕ))) (input : List ℕ) (names : List (Vec (String Global) Global)) (a : Answer) → IsCertifying input budget a → IsAnswerFor (Certify budget effort) former input names a
certifying_answers budget effort former input names (Text text) holds = holds
certifying_answers budget effort former input names (Remarks lines) holds = absurd holds
certifying_answers budget effort former input names (Noted text lines) holds = absurd holds
certifying_answers budget effort former input names (Wrong lines) holds = holds

pub lint_answers : (before file former : Option (Bor (List ℕ))) (input : List ℕ) (names : List (Vec (String Global) Global)) (a : Answer) → IsLinted former input a → IsAnswerFor (Lint before file) former input names a
lint_answers before file former input names (Text text) linted = linted
lint_answers before file former input names (Remarks lines) linted = tt
lint_answers before file former input names (Noted text lines) linted = absurd linted
lint_answers before file former input names (Wrong lines) linted = tt

pub ordering_answers : (output : Output) (former : Option (Bor (List ℕ))) (input : List ℕ) (names : List (Vec (String Global) Global))
    (a : Answer) → IsOrdering input a → IsAnswerFor (AddOrders output) former input names a
ordering_answers output former input names (Text text) holds = absurd holds
ordering_answers output former input names (Remarks lines) holds = absurd holds
ordering_answers output former input names (Noted text lines) holds = (tt, holds)
ordering_answers output former input names (Wrong lines) holds = tt

pub run_ordering_answers : (seed : ℕ) (journal : Option (Bor (List ℕ))) (output : Output) (former : Option (Bor (List ℕ))) (input : List ℕ)
    (names : List (Vec (String Global) Global)) (a : Answer) → IsOrderingByRun input a → IsAnswerFor (OrderByRun seed journal output) former input names a
run_ordering_answers seed journal output former input names (Text text) holds = absurd holds
run_ordering_answers seed journal output former input names (Remarks lines) holds = absurd holds
run_ordering_answers seed journal output former input names (Noted text lines) holds = (tt, holds)
run_ordering_answers seed journal output former input names (Wrong lines) holds = tt

pub protecting_answers : (budget : ℕ) (effort : Effort) (rounds : ℕ) (output : Output) (former : Option (Bor (List ℕ))) (input : List ℕ)
    (names : List (Vec (String Global) Global)) (a : Answer) → IsProtecting input a → IsAnswerFor (Protect budget effort rounds output) former input names a
protecting_answers budget effort rounds output former input names (Text text) holds = absurd holds
protecting_answers budget effort rounds output former input names (Remarks lines) holds = absurd holds
protecting_answers budget effort rounds output former input names (Noted text lines) holds = (tt, holds)
protecting_answers budget effort rounds output former input names (Wrong lines) holds = holds

-- what is wrong is no document with orders
pub wrong_orders : (input : List ℕ) (a : Answer) → IfText (λ text. ⊥) a → IsOrdering input a
wrong_orders input (Text text) holds = absurd holds
wrong_orders input (Remarks lines) holds = absurd holds
wrong_orders input (Noted text lines) holds = absurd holds
wrong_orders input (Wrong lines) holds = tt

-- two facts of a result under one condition are one fact
pub together : {X E : Type 0} (P : X → Type 0) (A B : Type 0) (result : Result X E) → IfOk result (λ x. P x → A) → IfOk result (λ x. P x → B) → IfOk result (λ x. P x → A × B)
together P A B (Ok x) a b = λ p. (a p, b p)
together P A B (Err e) a b = tt

-- notes on what was read are notes on what the source had, if it is known
notes_of_read : (order : Order) (left : Option (List ℕ)) (input : List ℕ) → IfSome left (λ all. input ≡ all) → HasNotes order (Some input) → HasNotes order left
notes_of_read OfPlan (Some all) input is notes = subst IsSuspected is notes
notes_of_read OfPlan None input is notes = tt
notes_of_read (Protect budget effort rounds output) left input is notes = tt
notes_of_read (AddOrders output) left input is notes = tt
notes_of_read (OrderByRun seed journal output) left input is notes = tt
notes_of_read (ExplainState table at run file) left input is notes = absurd notes
notes_of_read (ExplainLine line file) left input is notes = absurd notes
notes_of_read (Lint before file) left input is notes = absurd notes
notes_of_read (Certify budget effort) left input is notes = absurd notes
notes_of_read (Timetable csv journal delay) left input is notes = absurd notes
notes_of_read (Graph train journal blocks delay) left input is notes = absurd notes
notes_of_read (Report title journal delay) left input is notes = absurd notes
notes_of_read (CompareWith csv file) left input is notes = absurd notes
notes_of_read (CompareDelayed csv delay) left input is notes = absurd notes
notes_of_read (Layout table at file) left input is notes = absurd notes

pub quiet_as_read : (Quiet : Type 0) (order : Order) (left : Option (List ℕ)) (input : List ℕ) → IfSome left (λ all. input ≡ all) →
    HasNotes order (Some input) ⊎ Quiet → HasNotes order left ⊎ Quiet
quiet_as_read Quiet order left input is (inl notes) = inl (notes_of_read order left input is notes)
quiet_as_read Quiet order left input is (inr quiet) = inr quiet
