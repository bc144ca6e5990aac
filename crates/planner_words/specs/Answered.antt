-- Words that are answered with no order ask for none.
use Rattle.std.specs.Prelude.{List, Option, IsSomeAnd}
use Rattle.clap.specs.Words.{Row, Text}
use Rattle.ats_words.specs.declared.answering.WordsAnswered.{WordsAnswered}
use Rattle.ats_words.specs.declared.answering.WordsAnswered.TheVariants.{Shown, Refused, Memory}
use Rattle.planner_words.specs.Named.{AsksFor}
use Rattle.planner_words.specs.declared.orders.Order.{Order}

-- What clap found asks for no order.
abbrev pub AsksForNone : Option (Text × List Row) → Type 0
AsksForNone found = (order : Order) → IsSomeAnd found (AsksFor order) → ⊥

-- What clap found asks for no order, unless there was no memory.
abbrev pub MissesNone : Option (Text × List Row) → WordsAnswered → Type 0
MissesNone found (Shown text) = AsksForNone found
MissesNone found (Refused text) = AsksForNone found
MissesNone found Memory = Unit {0}
