-- The line that is written of a refusal.
use Rattle.std.specs.Prelude.{ℕ, List, codes}
use Rattle.refusal_lines.specs.Fields.{line, no_memory}
use Rattle.refusal_lines.specs.Documents.{document_words}
use Rattle.refusal_lines.specs.Certificates.{tree_words, bad_words}
use Rattle.refusal_lines.specs.Journals.{text_words, line_words}
use Rattle.refusal_lines.specs.Makers.{many_words, spent_words, stuck_words, rounds_words, connected_words}
use Rattle.ats_answers.specs.declared.failure.Failure.{Failure}
use Rattle.ats_answers.specs.declared.failure.Failure.TheVariants.{Words, Memory, ReadFault, WriteFault, TooLong, Document, Tree, Certificate, Spent, Stuck, Rounds, Many, Connected, NoJournal, Text, Line}

-- the number of a refusal, its name and its fields
abbrev pub words_of : Failure → List ℕ
words_of Words = codes "201 Words"
words_of Memory = no_memory
words_of ReadFault = codes "207 ReadFault"
words_of WriteFault = codes "208 WriteFault"
words_of TooLong = codes "104 TooLong limit=16777216"
words_of NoJournal = codes "70 NoJournal"
words_of (Document e) = document_words e
words_of (Tree t e) = tree_words t e
words_of (Certificate t bad) = bad_words t bad
words_of (Spent t n) = spent_words t n
words_of (Stuck t p) = stuck_words t p
words_of (Rounds t n p) = rounds_words t n p
words_of (Many t n) = many_words t n
words_of (Connected t) = connected_words t
words_of (Text e) = text_words e
words_of (Line e) = line_words e

abbrev pub line_of : Failure → List ℕ
line_of e = line (words_of e)

-- The line is made, which takes memory.
abbrev pub IsLineMade : Failure → Type 0
IsLineMade (Document e) = Unit {0}
IsLineMade (Tree t e) = Unit {0}
IsLineMade (Certificate t bad) = Unit {0}
IsLineMade (Spent t n) = Unit {0}
IsLineMade (Stuck t p) = Unit {0}
IsLineMade (Rounds t n p) = Unit {0}
IsLineMade (Many t n) = Unit {0}
IsLineMade (Connected t) = Unit {0}
IsLineMade (Text e) = Unit {0}
IsLineMade (Line e) = Unit {0}
IsLineMade e = ⊥
