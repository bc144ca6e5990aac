-- Words that are refused ask for nothing.
use Rattle.std.proofs.Common.{◌≡◌, ◌∙◌, refl, sym, subst, inl, inr, ℕ, List, codes, false, true, Option, Some, None, Result}
use Rattle.std.proofs.lemmas.Bool.Decides.{not_from_Decides}
use Rattle.std.proofs.lemmas.Slice.Eq.{bytes_eq-Decides}
use Rattle.std.specs.Prelude.{bytes_eq, Ok, Err, IfErr, IsSomeAnd}
use Rattle.decimal_number.specs.Decimal.{number_of}
use Rattle.clap.specs.Words.{Row, Text, first_of}
use Rattle.clap.specs.declared.error.ErrorKind.{ErrorKind}
use Rattle.clap.specs.declared.error.ErrorKind.TheVariants.{DisplayHelp, DisplayVersion, OutOfMemory}
use Rattle.planner_words.specs.declared.orders.Effort.{Effort}
use Rattle.planner_words.specs.declared.orders.Effort.TheVariants.{Small, Usual, Great}
use Rattle.ats_words.specs.Answered.{AnswersWords}
use Rattle.planner_words.specs.Answered.{AsksForNone, MissesNone}
use Rattle.planner_words.specs.Named.{AsksFor, IsEffort, IsOutput, budget_in, is_up, nodes_in, rounds_in, word_of}
use Rattle.planner_words.specs.declared.orders.Output.{Output}
use Rattle.planner_words.specs.declared.orders.Output.TheVariants.{Document as OfDocument, Plan as OfPlan, Entries as OfEntries}
use Rattle.planner_words.specs.declared.orders.Order.{Order}
use Rattle.planner_words.specs.declared.orders.Order.TheVariants.{Plan, ExplainState, ExplainLine, Lint, Certify, Protect, AddOrders, OrderByRun, Timetable, Graph, Report, CompareWith, CompareDelayed, Layout}
use Rattle.ats_words.specs.declared.answering.WordsAnswered.{WordsAnswered}
use Rattle.ats_words.specs.declared.answering.WordsAnswered.TheVariants.{Shown, Refused, Memory}

-- whatever the answer is, no order is missed where none is asked for
pub none_missed : {A : Type 0} (found : Option (Text × List Row)) (r : Result A WordsAnswered) → AsksForNone found → IfErr r (MissesNone found)
none_missed found (Ok order) none = tt
none_missed found (Err (Shown text)) none = none
none_missed found (Err (Refused text)) none = none
none_missed found (Err Memory) none = tt

-- nor where memory ran out
pub no_memory : (kind : ErrorKind) (why : WordsAnswered) (found : Option (Text × List Row)) → AnswersWords kind why → kind ≡ OutOfMemory → MissesNone found why
no_memory kind (Shown text) found (inl help) is = let both : DisplayHelp ≡ OutOfMemory = cc in cc
no_memory kind (Shown text) found (inr version) is = let both : DisplayVersion ≡ OutOfMemory = cc in cc
no_memory kind (Refused text) found answers is = absurd (answers.1 is)
no_memory kind Memory found answers is = tt

-- words that a comparison tells apart differ
differ : (called name : Text) → bytes_eq called name ≡ false → called ≡ name → ⊥
differ called name = not_from_Decides _ (bytes_eq-Decides called name)

-- The number and the effort that are found for the command `certify`.
record IsCertifying (given : List Row) (order : Order) : Type 0 where
  nodes : ℕ
  effort : Effort
  nodes_are : budget_in given ≡ Some nodes
  effort_is : IsEffort (first_of (codes "effort") given) effort

-- The numbers and the effort that are found for the command `protect`.
record IsProtecting (given : List Row) (order : Order) : Type 0 where
  nodes : ℕ
  effort : Effort
  rounds : ℕ
  nodes_are : nodes_in given ≡ Some nodes
  rounds_are : rounds_in given ≡ Some rounds
  effort_is : IsEffort (first_of (codes "effort") given) effort
  output : Output
  output_is : IsOutput given output

-- the command `explain` asks for nothing without places and without a line
pub none_explained : (given : List Row) → None ≡ first_of (codes "at") given → None ≡ first_of (codes "line") given → AsksForNone (Some (codes "explain", given))
none_explained given no_places no_line Plan asked = differ _ _ refl asked.0
none_explained given no_places no_line (ExplainState table at run plan) asked = let found : Some at.now ≡ None = asked.1.1 ∙ sym no_places in cc
none_explained given no_places no_line (ExplainLine line plan) asked = let found : Some line.now ≡ None = asked.1.1 ∙ sym no_line in cc
none_explained given no_places no_line (Lint before plan) asked = differ _ _ refl asked.0
none_explained given no_places no_line (Certify budget effort) asked = differ _ _ refl asked.0
none_explained given no_places no_line (Protect budget effort rounds output) asked = differ _ _ refl asked.0
none_explained given no_places no_line (AddOrders output) asked = differ _ _ refl asked.0
none_explained given no_places no_line (OrderByRun seed journal output) asked = differ _ _ refl asked.0
none_explained given no_places no_line (Timetable csv journal delay) asked = differ _ _ refl asked.0
none_explained given no_places no_line (Graph train journal blocks delay) asked = differ _ _ refl asked.0
none_explained given no_places no_line (Report title journal delay) asked = differ _ _ refl asked.0
none_explained given no_places no_line (CompareWith csv other) asked = differ _ _ refl asked.0
none_explained given no_places no_line (CompareDelayed csv delay) asked = differ _ _ refl asked.0
none_explained given no_places no_line (Layout table at plan) asked = differ _ _ refl asked.0

-- the command `compare` asks for nothing without another run and without a delay
pub none_compared : (given : List Row) → None ≡ first_of (codes "with") given → None ≡ first_of (codes "delay") given → AsksForNone (Some (codes "compare", given))
none_compared given no_other no_delay Plan asked = differ _ _ refl asked.0
none_compared given no_other no_delay (ExplainState table at run plan) asked = differ _ _ refl asked.0
none_compared given no_other no_delay (ExplainLine line plan) asked = differ _ _ refl asked.0
none_compared given no_other no_delay (Lint before plan) asked = differ _ _ refl asked.0
none_compared given no_other no_delay (Certify budget effort) asked = differ _ _ refl asked.0
none_compared given no_other no_delay (Protect budget effort rounds output) asked = differ _ _ refl asked.0
none_compared given no_other no_delay (AddOrders output) asked = differ _ _ refl asked.0
none_compared given no_other no_delay (OrderByRun seed journal output) asked = differ _ _ refl asked.0
none_compared given no_other no_delay (Timetable csv journal delay) asked = differ _ _ refl asked.0
none_compared given no_other no_delay (Graph train journal blocks delay) asked = differ _ _ refl asked.0
none_compared given no_other no_delay (Report title journal delay) asked = differ _ _ refl asked.0
none_compared given no_other no_delay (CompareWith csv other) asked = let found : Some other.now ≡ None = asked.1.1 ∙ sym no_other in cc
none_compared given no_other no_delay (CompareDelayed csv delay) asked = let found : Some delay.now ≡ None = asked.1.2 ∙ sym no_delay in cc
none_compared given no_other no_delay (Layout table at plan) asked = differ _ _ refl asked.0

-- an order of the command `certify` has its values
asks_to_certify : (given : List Row) (order : Order) → AsksFor order (codes "certify", given) → IsCertifying given order
asks_to_certify given Plan asked = absurd (differ _ _ refl asked.0)
asks_to_certify given (ExplainState table at run plan) asked = absurd (differ _ _ refl asked.0)
asks_to_certify given (ExplainLine line plan) asked = absurd (differ _ _ refl asked.0)
asks_to_certify given (Lint before plan) asked = absurd (differ _ _ refl asked.0)
asks_to_certify given (Certify budget effort) asked = record { nodes = budget; effort = effort; nodes_are = asked.1.0; effort_is = asked.1.1 }
asks_to_certify given (Protect budget effort rounds output) asked = absurd (differ _ _ refl asked.0)
asks_to_certify given (AddOrders output) asked = absurd (differ _ _ refl asked.0)
asks_to_certify given (OrderByRun seed journal output) asked = absurd (differ _ _ refl asked.0)
asks_to_certify given (Timetable csv journal delay) asked = absurd (differ _ _ refl asked.0)
asks_to_certify given (Graph train journal blocks delay) asked = absurd (differ _ _ refl asked.0)
asks_to_certify given (Report title journal delay) asked = absurd (differ _ _ refl asked.0)
asks_to_certify given (CompareWith csv other) asked = absurd (differ _ _ refl asked.0)
asks_to_certify given (CompareDelayed csv delay) asked = absurd (differ _ _ refl asked.0)
asks_to_certify given (Layout table at plan) asked = absurd (differ _ _ refl asked.0)

-- the command `certify` asks for nothing with a number that is no budget
pub none_certified : (given : List Row) → budget_in given ≡ None → AsksForNone (Some (codes "certify", given))
none_certified given no_budget order asked =
    let has = asks_to_certify given order asked in
    let found : Some has.nodes ≡ None = sym has.nodes_are ∙ no_budget in cc

-- nor with a word that is no effort
pub none_tried : (given : List Row) → ((effort : Effort) → IsEffort (first_of (codes "effort") given) effort → ⊥) → AsksForNone (Some (codes "certify", given))
none_tried given no_effort order asked = let has = asks_to_certify given order asked in no_effort has.effort has.effort_is

-- an order of the command `protect` has its values
asks_to_protect : (given : List Row) (order : Order) → AsksFor order (codes "protect", given) → IsProtecting given order
asks_to_protect given Plan asked = absurd (differ _ _ refl asked.0)
asks_to_protect given (ExplainState table at run plan) asked = absurd (differ _ _ refl asked.0)
asks_to_protect given (ExplainLine line plan) asked = absurd (differ _ _ refl asked.0)
asks_to_protect given (Lint before plan) asked = absurd (differ _ _ refl asked.0)
asks_to_protect given (Certify budget effort) asked = absurd (differ _ _ refl asked.0)
asks_to_protect given (Protect budget effort rounds output) asked =
    record { nodes = budget; effort = effort; rounds = rounds; nodes_are = asked.1.0; rounds_are = asked.1.1; effort_is = asked.1.2; output = output; output_is = asked.1.3 }
asks_to_protect given (AddOrders output) asked = absurd (differ _ _ refl asked.0)
asks_to_protect given (OrderByRun seed journal output) asked = absurd (differ _ _ refl asked.0)
asks_to_protect given (Timetable csv journal delay) asked = absurd (differ _ _ refl asked.0)
asks_to_protect given (Graph train journal blocks delay) asked = absurd (differ _ _ refl asked.0)
asks_to_protect given (Report title journal delay) asked = absurd (differ _ _ refl asked.0)
asks_to_protect given (CompareWith csv other) asked = absurd (differ _ _ refl asked.0)
asks_to_protect given (CompareDelayed csv delay) asked = absurd (differ _ _ refl asked.0)
asks_to_protect given (Layout table at plan) asked = absurd (differ _ _ refl asked.0)

-- the command `protect` asks for nothing with a number of nodes or of rounds that is out of range
pub no_nodes_protected : (given : List Row) → nodes_in given ≡ None → AsksForNone (Some (codes "protect", given))
no_nodes_protected given none order asked =
    let has = asks_to_protect given order asked in
    let found : Some has.nodes ≡ None = sym has.nodes_are ∙ none in cc

pub no_rounds_protected : (given : List Row) → rounds_in given ≡ None → AsksForNone (Some (codes "protect", given))
no_rounds_protected given none order asked =
    let has = asks_to_protect given order asked in
    let found : Some has.rounds ≡ None = sym has.rounds_are ∙ none in cc

-- nor with a word that is no effort
pub no_effort_protected : (given : List Row) → ((effort : Effort) → IsEffort (first_of (codes "effort") given) effort → ⊥) →
    AsksForNone (Some (codes "protect", given))
no_effort_protected given no_effort order asked = let has = asks_to_protect given order asked in no_effort has.effort has.effort_is

-- nor with two outputs
pub no_output_protected : (given : List Row) → ((output : Output) → IsOutput given output → ⊥) → AsksForNone (Some (codes "protect", given))
no_output_protected given no_output order asked = let has = asks_to_protect given order asked in no_output has.output has.output_is

-- the command `order` asks for nothing with two outputs
pub no_output_ordered : (given : List Row) → ((output : Output) → IsOutput given output → ⊥) → AsksForNone (Some (codes "order", given))
no_output_ordered given no_output Plan asked = differ _ _ refl asked.0
no_output_ordered given no_output (ExplainState table at run plan) asked = differ _ _ refl asked.0
no_output_ordered given no_output (ExplainLine line plan) asked = differ _ _ refl asked.0
no_output_ordered given no_output (Lint before plan) asked = differ _ _ refl asked.0
no_output_ordered given no_output (Certify budget effort) asked = differ _ _ refl asked.0
no_output_ordered given no_output (Protect budget effort rounds output) asked = differ _ _ refl asked.0
no_output_ordered given no_output (AddOrders output) asked = no_output output asked.1.2
no_output_ordered given no_output (OrderByRun seed journal output) asked = no_output output asked.1.2
no_output_ordered given no_output (Timetable csv journal delay) asked = differ _ _ refl asked.0
no_output_ordered given no_output (Graph train journal blocks delay) asked = differ _ _ refl asked.0
no_output_ordered given no_output (Report title journal delay) asked = differ _ _ refl asked.0
no_output_ordered given no_output (CompareWith csv other) asked = differ _ _ refl asked.0
no_output_ordered given no_output (CompareDelayed csv delay) asked = differ _ _ refl asked.0
no_output_ordered given no_output (Layout table at plan) asked = differ _ _ refl asked.0

-- no output is two
pub two_outputs : (given : List Row) → is_up (codes "into") given ≡ true → is_up (codes "entries") given ≡ true → (output : Output) → IsOutput given output → ⊥
two_outputs given into entries OfDocument is = let both : false ≡ true = is.0 ∙ into in cc
two_outputs given into entries OfPlan is = let both : false ≡ true = is.1 ∙ entries in cc
two_outputs given into entries OfEntries is = let both : false ≡ true = is.0 ∙ into in cc

-- the command `order` asks for nothing with a word that is no number
pub none_ordered : (given : List Row) (word : Text) → Some word ≡ first_of (codes "of-run") given → number_of word ≡ None → AsksForNone (Some (codes "order", given))
none_ordered given word found none Plan asked = differ _ _ refl asked.0
none_ordered given word found none (ExplainState table at run plan) asked = differ _ _ refl asked.0
none_ordered given word found none (ExplainLine line plan) asked = differ _ _ refl asked.0
none_ordered given word found none (Lint before plan) asked = differ _ _ refl asked.0
none_ordered given word found none (Certify budget effort) asked = differ _ _ refl asked.0
none_ordered given word found none (Protect budget effort rounds output) asked = differ _ _ refl asked.0
none_ordered given word found none (AddOrders output) asked = let unnamed : None ≡ Some word = asked.1.0 ∙ sym found in cc
none_ordered given word found none (OrderByRun seed journal output) asked =
    let number : number_of word ≡ Some seed = subst (λ o. IsSomeAnd o (λ w. number_of w ≡ Some seed)) (sym found) asked.1.0 in
    let both : Some seed ≡ None = sym number ∙ none in cc
none_ordered given word found none (Timetable csv journal delay) asked = differ _ _ refl asked.0
none_ordered given word found none (Graph train journal blocks delay) asked = differ _ _ refl asked.0
none_ordered given word found none (Report title journal delay) asked = differ _ _ refl asked.0
none_ordered given word found none (CompareWith csv other) asked = differ _ _ refl asked.0
none_ordered given word found none (CompareDelayed csv delay) asked = differ _ _ refl asked.0
none_ordered given word found none (Layout table at plan) asked = differ _ _ refl asked.0

-- nor with a journal and no number
pub none_ordered_by : (given : List Row) (file : Text) → None ≡ first_of (codes "of-run") given → Some file ≡ first_of (codes "journal") given →
    AsksForNone (Some (codes "order", given))
none_ordered_by given file none found Plan asked = differ _ _ refl asked.0
none_ordered_by given file none found (ExplainState table at run plan) asked = differ _ _ refl asked.0
none_ordered_by given file none found (ExplainLine line plan) asked = differ _ _ refl asked.0
none_ordered_by given file none found (Lint before plan) asked = differ _ _ refl asked.0
none_ordered_by given file none found (Certify budget effort) asked = differ _ _ refl asked.0
none_ordered_by given file none found (Protect budget effort rounds output) asked = differ _ _ refl asked.0
none_ordered_by given file none found (AddOrders output) asked = let unnamed : None ≡ Some file = asked.1.1 ∙ sym found in cc
none_ordered_by given file none found (OrderByRun seed journal output) asked =
    subst (λ o. IsSomeAnd o (λ w. number_of w ≡ Some seed)) (sym none) asked.1.0
none_ordered_by given file none found (Timetable csv journal delay) asked = differ _ _ refl asked.0
none_ordered_by given file none found (Graph train journal blocks delay) asked = differ _ _ refl asked.0
none_ordered_by given file none found (Report title journal delay) asked = differ _ _ refl asked.0
none_ordered_by given file none found (CompareWith csv other) asked = differ _ _ refl asked.0
none_ordered_by given file none found (CompareDelayed csv delay) asked = differ _ _ refl asked.0
none_ordered_by given file none found (Layout table at plan) asked = differ _ _ refl asked.0

-- a word that is none of the three is for no effort
pub no_effort : (word : Text) → (word ≡ codes "small" → ⊥) → (word ≡ codes "usual" → ⊥) → (word ≡ codes "great" → ⊥) → (effort : Effort) → word ≡ word_of effort → ⊥
no_effort word no_small no_usual no_great Small is = no_small is
no_effort word no_small no_usual no_great Usual is = no_usual is
no_effort word no_small no_usual no_great Great is = no_great is
