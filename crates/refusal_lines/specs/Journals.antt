-- What is printed of a journal that is refused.
use Rattle.std.specs.Prelude.{ℕ, List, ◌++◌, codes, decimal}
use Rattle.rail_model.specs.declared.types.Ask.{Ask}
use Rattle.rail_model.specs.declared.types.Ask.TheVariants as ask
use Rattle.move_journal.specs.declared.faults.BadText.{BadText}
use Rattle.move_journal.specs.declared.faults.BadText.TheVariants as text
use Rattle.move_journal.specs.declared.faults.BadLine.{BadLine}
use Rattle.move_journal.specs.declared.faults.BadLine.TheVariants as line
use Rattle.refusal_lines.specs.Fields.{no_memory}

-- The refusals of texts.
abbrev pub text_words : BadText → List ℕ
text_words (text.Line n) = codes "71 Line line=" ++ decimal n
text_words (text.Number n) = codes "72 Number line=" ++ decimal n
text_words text.NoEnd = codes "73 NoEnd"
text_words text.After = codes "74 After"
text_words text.Memory = no_memory

-- The answer that the train of a move would get.
abbrev pub ask_words : Ask → List ℕ
ask_words ask.Yes = codes "Yes"
ask_words ask.Arrived = codes "Arrived"
ask_words (ask.Occupied k) = codes "Occupied by=" ++ decimal k
ask_words (ask.Full s n) = codes "Full section=" ++ decimal s ++ codes " count=" ++ decimal n
ask_words (ask.Waits c) = codes "Waits connection=" ++ decimal c

-- The refusals of lines, and of what is missing after them.
abbrev pub line_words : BadLine → List ℕ
line_words (line.Move n told) = codes "75 Move line=" ++ decimal n ++ codes " " ++ ask_words told
line_words (line.Table n) = codes "76 Table line=" ++ decimal n
line_words (line.Unfinished i) = codes "77 Unfinished train=" ++ decimal i
line_words line.Counts = codes "78 Counts"
line_words (line.Place n) = codes "79 Place line=" ++ decimal n
line_words (line.Open t) = codes "80 Open table=" ++ decimal t
line_words line.Memory = no_memory
