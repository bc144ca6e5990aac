-- Inputs that a command takes: where no device fails, its answer is its text, or there was no memory.
use Rattle.std.specs.Prelude.{◌≡◌, ◌⊎◌, ℕ, ◌≤◌, List, length}
use Rattle.ats_words.specs.declared.orders.Order.{Order}
use Rattle.ats_words.specs.declared.orders.Order.TheVariants.{Run, Resume, Check, Verify, Migrate, Make, Derive, Repair, Simulate, Generate, Drill, Weave}
use Rattle.ats_answers.specs.declared.status.Status.{Status}
use Rattle.ats_answers.specs.declared.status.Status.TheVariants.{Done, Memory}
use Rattle.ats_run.specs.Causes.{most_bytes}
use Rattle.accepted_documents.specs.Accepting.{IsDocWith}
use Rattle.ats_answers.specs.Making.{tables_in, AreMakeable}
use Rattle.ats_answers.specs.Repairing.{IsRepairable}
use Rattle.ats_answers.specs.Suited.{IsDocument, IsAcceptedInput, IsWholeText, IsRightFront, IsJournalInput, IsDerivable, IsMakeable}

-- What a command asks of its input.
abbrev pub Suits : Order → List ℕ → Type 0
Suits (Run workers rounds block) input = IsAcceptedInput input
Suits Simulate input = IsAcceptedInput input
Suits (Weave seed turns) input = IsAcceptedInput input
Suits Check input = IsAcceptedInput input
Suits Verify input = IsJournalInput input IsWholeText
Suits (Resume workers rounds block) input = IsJournalInput input (λ D given. IsWholeText D given ⊎ IsRightFront D given)
Suits Migrate input = IsDocument input
Suits (Make budget) input = IsDocWith input (λ D. AreMakeable (tables_in D) budget)
Suits (Derive most budget) input = IsDocWith input (IsDerivable most budget)
Suits (Repair budget rounds) input = IsDocWith input (λ D. IsRepairable D budget rounds)
Suits (Generate seed trains) input = IsMakeable seed trains
Suits (Drill seed trains workers) input = IsMakeable seed trains

-- Not too long, and what the command asks for.
abbrev pub IsGoodInput : Order → List ℕ → Type 0
IsGoodInput order input = (length input ≤ most_bytes) × Suits order input

abbrev pub IsDoneOrMemory : Status → Type 0
IsDoneOrMemory status = (status ≡ Done) ⊎ (status ≡ Memory)
