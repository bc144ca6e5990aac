-- The words of a command line: a document's file or none, or what is shown or said instead.
use Rattle.std.specs.Prelude.{◌≡◌, ◌⊎◌, List, Option, codes, true, Some, string_bytes, ℕ}
use Rattle.clap.specs.Words.{App, Rule, Text, first_of, matches_of, new_app, new_rule, with_rule}
use Rattle.clap.specs.declared.builder.action.ArgAction.TheVariants.{Set}
use Rattle.ats_io.specs.Bytes.{Adds, AddsPrefix}
use Rattle.dispatch_run.specs.declared.status.Status.{Status}
use Rattle.dispatch_run.specs.declared.status.Status.TheVariants as status
use Rattle.ats_words.specs.declared.answering.WordsAnswered.{WordsAnswered}
use Rattle.ats_words.specs.declared.answering.WordsAnswered.TheVariants.{Shown, Refused, Memory}
use Rattle.dispatch_run.specs.Report.{Tells, no_memory_line}

-- the argument that names the file of a document
abbrev pub document_rule : Rule
document_rule = record (new_rule (codes "document")) { action = Some Set; value_names = 1 }

-- the command as clap takes it
abbrev pub dispatcher : App
dispatcher =
    let app = new_app (codes "dispatch") in
    with_rule (record app { top = record app.top { no_binary_name = true; has_version = true } }) document_rule

-- the file of a document that the words name, or none
abbrev pub document_in : List Text → Option Text
document_in words = first_of (codes "document") (matches_of dispatcher words)

-- Help and the version are written to `out`; what is wrong with the words to `err`.
abbrev pub TurnsDown : WordsAnswered → Status → Type 0 → Option (List ℕ) → Option (List ℕ) → Type 0 → Option (List ℕ)
    → Option (List ℕ) → Type 0
TurnsDown (Shown text) result out_failed out_old out_new err_failed err_old err_new =
    ((result ≡ status.Done) × Adds out_old out_new (string_bytes text))
    ⊎ ((result ≡ status.WriteFault) × out_failed × AddsPrefix out_old out_new (string_bytes text))
TurnsDown (Refused text) result out_failed out_old out_new err_failed err_old err_new =
    (result ≡ status.Words) × Tells (string_bytes text) err_failed err_old err_new
TurnsDown Memory result out_failed out_old out_new err_failed err_old err_new =
    (result ≡ status.Memory) × Tells no_memory_line err_failed err_old err_new
