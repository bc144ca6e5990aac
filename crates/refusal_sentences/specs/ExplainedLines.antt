-- How a line of ats is explained.
use Rattle.std.specs.Prelude.{ℕ, List, String, Vec}
use Rattle.std.specs.declared.alloc.Global.{Global}
use Rattle.refusal_sentences.specs.Explains.{ExplainsState}
use Rattle.refusal_sentences.specs.StateLines.{NamesState, IsLineOf}
use Rattle.refusal_sentences.specs.declared.explained.Explained.{Explained}
use Rattle.refusal_sentences.specs.declared.explained.Explained.TheVariants.{State, Refusal, NotLegal, NoTable, NoDocument, NoLine}

-- The line names positions of a table, and this explains them, by these names of sections.
pub record ExplainsItsState (bytes : List ℕ) (names : List (Vec (String Global) Global)) (line : List ℕ) (told : Explained) : Type 0 where
  pub words : List ℕ
  pub table : ℕ
  pub places : List ℕ
  pub is_line : IsLineOf line words
  pub is_named : NamesState words table places
  pub explains : ExplainsState bytes names table places told

-- Where a state is explained, it is the one that the line names.
abbrev pub ExplainsLine : List ℕ → List (Vec (String Global) Global) → List ℕ → Explained → Type 0
ExplainsLine bytes names line (State text) = ExplainsItsState bytes names line (State text)
ExplainsLine bytes names line (NotLegal cause text) = ExplainsItsState bytes names line (NotLegal cause text)
ExplainsLine bytes names line (NoTable tables text) = ExplainsItsState bytes names line (NoTable tables text)
ExplainsLine bytes names line (NoDocument refused text) = ExplainsItsState bytes names line (NoDocument refused text)
ExplainsLine bytes names line (Refusal text) = Unit {0}
ExplainsLine bytes names line (NoLine text) = Unit {0}
