-- What the first line of the bytes is, as the reader's own cases.
use Rattle.std.specs.Prelude.{◌≡◌, ℕ, List, Some, None}
use Rattle.rail_model.specs.Names.{Names}
use Rattle.move_journal.specs.declared.reading.Head.{Head}
use Rattle.move_journal.specs.declared.reading.Head.TheVariants.{Numbered, End, Other}
use Rattle.move_journal.specs.Answers.{BeginsWithLine, BeginsWithEnd, BeginsWithNone}
use Rattle.move_journal.specs.Words.{word_list, numbered_of, end_of}

-- The bytes begin so, and the later ones follow.
abbrev pub IsHead : Names → List ℕ → Head → List ℕ → Type 0
IsHead N bytes (Numbered n l) later = BeginsWithLine N bytes n l later
IsHead N bytes (End moves tables) later = BeginsWithEnd bytes moves tables later
IsHead N bytes Other later = BeginsWithNone N bytes

-- The same of the bytes before a newline, as their words are read.
abbrev pub IsContent : Names → List ℕ → Head → Type 0
IsContent N content (Numbered n l) = numbered_of N (word_list content) ≡ Some (n, l)
IsContent N content (End moves tables) = end_of (word_list content) ≡ Some (moves, tables)
IsContent N content Other = (numbered_of N (word_list content) ≡ None) × (end_of (word_list content) ≡ None)
