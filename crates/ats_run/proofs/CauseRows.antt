-- Worked rows: inputs that are refused at once, and the causes of refusals.
use Rattle.std.proofs.Common.{◌≡◌, ℕ, ◌<◌, ◌≤◌, List, [], length, codes, Option, Some, None, Err, refl, sym, subst, arith, lit≤}
use Rattle.ats_words.specs.declared.orders.Order.{Order}
use Rattle.ats_words.specs.declared.orders.Order.TheVariants.{Check, Verify, Generate}
use Rattle.document_shapes.specs.declared.refused.ShapeRefused.TheVariants.{NotJson}
use Rattle.document_json.specs.declared.refused.DocRefused.TheVariants.{Shape}
use Rattle.document_json.specs.Reading.{doc_of}
use Rattle.ats_answers.specs.declared.failure.Failure.TheVariants.{Words, Memory, ReadFault, WriteFault, TooLong, Document, NoJournal}
use Rattle.ats_answers.specs.declared.status.Status.TheVariants as status
use Rattle.ats_run.specs.Causes.{Call, IsCause, TellsCause, most_bytes}
use Rattle.ats_run.specs.Command.{Comes}
use Rattle.ats_run.specs.Orders.{Reads, OnInput}
use Rattle.ats_answers.proofs.CutRows.{is_cut, no_cut}

no_document : (input : List ℕ) → doc_of input ≡ Err (Shape NotJson) → Comes Check input (Err (Document (Shape NotJson)))
no_document input refused = refused

-- the line between a document and a journal is looked at before both
no_journal : Comes Verify (codes "{\njournal") (Err NoJournal)
no_journal = no_cut (codes "{\njournal") refl

no_document_before : doc_of (codes "{") ≡ Err (Shape NotJson) → Comes Verify (codes "{\njournal\n") (Err (Document (Shape NotJson)))
no_document_before refused = (1, is_cut (codes "{\njournal\n") 1 refl refl, refused)

-- a call that reads its input to the end, with no fault of source or sink
abbrev call_of : Option Order → Option (List ℕ) → Call
call_of order held = record { order = order; held = held; at_end = Unit {0}; source_failed = ⊥; sink_failed = ⊥ }

refused_words : IsCause (call_of None (Some [])) Words
refused_words = refl

good_words : IsCause (call_of (Some Check) (Some [])) Words → ⊥
good_words cause = cc

no_memory : (call : Call) → IsCause call Memory
no_memory call = tt

refused_document : (input : List ℕ) → length input ≤ most_bytes → doc_of input ≡ Err (Shape NotJson) → IsCause (call_of (Some Check) (Some input)) (Document (Shape NotJson))
refused_document input short refused = (Check, refl, ((λ reads. (tt, short)), refused))

-- of an input that is too long nothing else is told
no_document_too_long : (input : List ℕ) → length input ≡ 16777217 → IsCause (call_of (Some Check) (Some input)) (Document (Shape NotJson)) → ⊥
no_document_too_long input size cause =
    let asked : cause.0 ≡ Check = let same = cause.1 in cc in
    let short : length input ≤ most_bytes = (cause.2.0 (subst Reads (sym asked) tt)).1 in
    omega (arith, size, short)

one_byte_more : (input : List ℕ) → length input ≡ 16777217 → IsCause (call_of (Some Check) (Some input)) TooLong
one_byte_more input size = (Check, refl, (tt, omega (arith, size)))

longest : (input : List ℕ) → length input ≡ 16777216 → IsCause (call_of (Some Check) (Some input)) TooLong → ⊥
longest input size cause =
    let asked : cause.0 ≡ Check = let same = cause.1 in cc in
    let more : most_bytes < length input = subst (λ (o : Order). OnInput o (Some input) (λ bytes. most_bytes < length bytes)) asked cause.2.1 in
    omega (arith, size, more)

-- `gen` reads nothing that is too long
gen_reads_nothing : (input : List ℕ) → IsCause (call_of (Some (Generate 2 3)) (Some input)) TooLong → ⊥
gen_reads_nothing input cause =
    let asked : cause.0 ≡ Generate 2 3 = let same = cause.1 in cc in
    subst Reads asked cause.2.0

source_at_fault : IsCause (record (call_of (Some Check) None) { at_end = ⊥; source_failed = Unit {0} }) ReadFault
source_at_fault = (Check, refl, (tt, tt))

no_sink_at_fault : IsCause (record (call_of (Some Check) None) { at_end = ⊥; source_failed = Unit {0} }) WriteFault → ⊥
no_sink_at_fault cause = cause.2.1

sink_at_fault : IsCause (record (call_of (Some Check) (Some [])) { sink_failed = Unit {0} }) WriteFault
sink_at_fault = (Check, refl, ((λ reads. (tt, lit≤ tt)), tt))

-- nothing is written before all is read
unread : IsCause (record (call_of (Some Check) (Some [])) { at_end = ⊥; sink_failed = Unit {0} }) WriteFault → ⊥
unread cause =
    let asked : cause.0 ≡ Check = let same = cause.1 in cc in
    (cause.2.0 (subst Reads (sym asked) tt)).0

-- where the error sink fails, a first part of the line is told
cut_line : TellsCause (call_of None (Some [])) status.Words (Unit {0}) (Some []) (Some (codes "ats: 201"))
cut_line = record { failure = Words; ends = refl; cause = refl; prefix = (8, refl); whole = λ works. absurd (works tt) }

whole_line : TellsCause (call_of None (Some [])) status.Words ⊥ (Some []) (Some (codes "ats: 201 Words\n"))
whole_line = record { failure = Words; ends = refl; cause = refl; prefix = (15, refl); whole = λ works. refl }
