-- What holds of an answer's text, made weaker.
use Rattle.std.proofs.Common.{ℕ, List}
use Rattle.std.specs.Prelude.{Result, Ok, Err, IfOk}
use Rattle.planner_run.specs.Answered.{IfText}
use Rattle.planner_run.specs.declared.answer.Answer.{Answer}
use Rattle.planner_run.specs.declared.answer.Answer.TheVariants.{Text, Remarks, Noted, Wrong}

pub if_text-weaker : {P Q : List ℕ → Type 0} → (a : Answer) → ((text : List ℕ) → P text → Q text) → IfText P a → IfText Q a
if_text-weaker (Text text) weaker holds = weaker text.items holds
if_text-weaker (Remarks lines) weaker holds = holds
if_text-weaker (Noted text lines) weaker holds = holds
if_text-weaker (Wrong lines) weaker holds = holds

-- the same of a result
pub if_ok-weaker : {E : Type 0} {P Q : List ℕ → Type 0} → (r : Result Answer E) → ((text : List ℕ) → P text → Q text) → IfOk r (IfText P) → IfOk r (IfText Q)
if_ok-weaker (Ok answer) weaker holds = if_text-weaker answer weaker holds
if_ok-weaker (Err error) weaker holds = tt
