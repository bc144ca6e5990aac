-- The line that is written of a failure: that of `ats`, but for the name of the program.
use Rattle.std.specs.Prelude.{ℕ, List, ◌++◌, codes, Option}
use Rattle.ats_io.specs.Bytes.{Adds, AddsPrefix}
use Rattle.refusal_lines.specs.Fields.{no_memory}
use Rattle.refusal_lines.specs.Documents.{document_words}
use Rattle.refusal_lines.specs.Certificates.{tree_words, bad_words}
use Rattle.refusal_lines.specs.Journals.{text_words, line_words}
use Rattle.line_service.specs.declared.server.ServeFault.{ServeFault}
use Rattle.line_service.specs.declared.server.ServeFault.TheVariants as serving
use Rattle.live_header.specs.declared.reading.Unread.{Unread}
use Rattle.live_header.specs.declared.reading.Unread.TheVariants as reading
use Rattle.live_header.specs.declared.refused.Refused.{Refused}
use Rattle.live_header.specs.declared.refused.Refused.TheVariants as refused
use Rattle.dispatch_run.specs.declared.failure.Failure.{Failure}
use Rattle.dispatch_run.specs.declared.failure.Failure.TheVariants as failure

-- what is said of a header that isn't whole
abbrev pub unread_words : Unread → List ℕ
unread_words reading.Memory = no_memory
unread_words reading.ReadFault = codes "207 ReadFault"
unread_words reading.TooLong = codes "104 TooLong limit=16777216"
unread_words reading.NoJournal = codes "70 NoJournal"
unread_words reading.NoLive = codes "300 NoLive"

-- what is said of a header that opens nothing
abbrev pub refused_words : Refused → List ℕ
refused_words refused.Memory = no_memory
refused_words refused.Other = codes "313 Document"
refused_words (refused.Document e) = document_words e
refused_words (refused.Tree t e) = tree_words t e
refused_words (refused.Certificate t bad) = bad_words t bad
refused_words (refused.Text e) = text_words e
refused_words (refused.Line e) = line_words e

-- what is said of a session that broke off
abbrev pub broken_words : ServeFault → List ℕ
broken_words serving.Memory = no_memory
broken_words serving.Read = codes "207 ReadFault"
broken_words serving.Write = codes "208 WriteFault"

-- the number of a failure, its name and its fields
abbrev pub words_of : Failure → List ℕ
words_of (failure.Unread e) = unread_words e
words_of (failure.Header e) = refused_words e
words_of (failure.Broken e) = broken_words e

abbrev pub line_of : Failure → List ℕ
line_of e = codes "dispatch: " ++ words_of e ++ codes "\n"

-- what is said where there is no memory for the line of a failure
abbrev pub no_memory_line : List ℕ
no_memory_line = codes "dispatch: 202 Memory\n"

-- The line was written to the error sink: whole, unless the sink failed.
pub record Tells (text : List ℕ) (failed : Type 0) (old new : Option (List ℕ)) : Type 0 where
  pub prefix : AddsPrefix old new text
  pub whole : (failed → ⊥) → Adds old new text
