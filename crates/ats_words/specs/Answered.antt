-- How words that are no order are answered.
use Rattle.std.specs.Prelude.{◌≡◌, ◌≢◌, ◌⊎◌}
use Rattle.clap.specs.declared.error.ErrorKind.{ErrorKind}
use Rattle.clap.specs.declared.error.ErrorKind.TheVariants.{DisplayHelp, DisplayVersion, OutOfMemory}
use Rattle.ats_words.specs.declared.answering.WordsAnswered.{WordsAnswered}
use Rattle.ats_words.specs.declared.answering.WordsAnswered.TheVariants.{Shown, Refused, Memory}

-- What clap gives an error of this kind for is help or the version.
abbrev pub IsHelp : ErrorKind → Type 0
IsHelp kind = (kind ≡ DisplayHelp) ⊎ (kind ≡ DisplayVersion)

-- Help and the version are shown, and any other words are refused, unless there was no memory.
abbrev pub AnswersWords : ErrorKind → WordsAnswered → Type 0
AnswersWords kind (Shown text) = IsHelp kind
AnswersWords kind (Refused text) = (IsHelp kind → ⊥) × (kind ≢ OutOfMemory)
AnswersWords kind Memory = Unit {0}
