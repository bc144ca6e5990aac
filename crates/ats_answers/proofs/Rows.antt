-- Worked rows: the ends of calls, the lines of refusals and the printed texts.
use Rattle.std.proofs.Common.{◌≡◌, List, [], ◌∷◌, codes, Some, None, refl}
use Rattle.std.specs.Prelude.{map}
use Rattle.std.specs.Fmt.{digits}
use Rattle.rail_model.specs.declared.types.Ask.TheVariants as ask
use Rattle.rail_model.specs.declared.types.Bad.TheVariants as bad
use Rattle.rail_model.specs.declared.types.Line.{Line}
use Rattle.rail_model.specs.declared.types.Line.TheVariants.{Move, Table, KeptDiffers}
use Rattle.rail_model.specs.Names.{Names}
use Rattle.cert_tree.specs.declared.reading.CertRefused.TheVariants as tree
use Rattle.document_shapes.specs.declared.refused.ShapeRefused.TheVariants as shape
use Rattle.document_json.specs.declared.refused.DocRefused.TheVariants as document
use Rattle.move_journal.specs.declared.faults.BadText.TheVariants as text
use Rattle.move_journal.specs.declared.faults.BadLine.TheVariants as line
use Rattle.accepted_documents.specs.declared.refused.Unaccepted.TheVariants as unaccepted
use Rattle.accepted_documents.specs.declared.refused.BadJournal.TheVariants as journal
use Rattle.ats_answers.specs.declared.failure.Failure.TheVariants as failure
use Rattle.ats_answers.specs.declared.status.Status.TheVariants as status
use Rattle.ats_answers.specs.Checking.{checked_text}
use Rattle.ats_answers.specs.Ending.{code, status_of, failure_of_document, failure_of_journal}
use Rattle.ats_answers.specs.Journals.{verified_text}
use Rattle.ats_answers.specs.Report.{line_of}
use Rattle.ats_answers.specs.Simulating.{timed_text, last_text}

exit_codes : map code (status.Done ∷ status.Words ∷ status.Memory ∷ status.Refused ∷ status.BadCertificate ∷ status.Spent ∷ status.Stuck ∷ status.ReadFault ∷ status.WriteFault ∷ status.BadJournal ∷ [])
    ≡ 0 ∷ 1 ∷ 2 ∷ 3 ∷ 4 ∷ 5 ∷ 6 ∷ 7 ∷ 8 ∷ 9 ∷ []
exit_codes = refl

codes_of_outside : map (λ e. code (status_of e)) (failure.Words ∷ failure.Memory ∷ failure.ReadFault ∷ failure.WriteFault ∷ failure.TooLong ∷ []) ≡ 1 ∷ 2 ∷ 7 ∷ 8 ∷ 3 ∷ []
codes_of_outside = refl

codes_of_documents : map (λ e. code (status_of e)) (failure.Document (document.Tables 0) ∷ failure.Tree 0 (tree.Short 1) ∷ failure.Certificate 0 (bad.Name 1) ∷ []) ≡ 3 ∷ 3 ∷ 4 ∷ []
codes_of_documents = refl

codes_of_making : map (λ e. code (status_of e)) (failure.Spent 0 8 ∷ failure.Stuck 0 (1 ∷ []) ∷ failure.Rounds 0 5 (1 ∷ []) ∷ failure.Many 0 65 ∷ failure.Connected 0 ∷ []) ≡ 5 ∷ 6 ∷ 5 ∷ 3 ∷ 3 ∷ []
codes_of_making = refl

codes_of_journals : map (λ e. code (status_of e)) (failure.NoJournal ∷ failure.Text text.NoEnd ∷ failure.Line line.Counts ∷ []) ≡ 9 ∷ 9 ∷ 9 ∷ []
codes_of_journals = refl

-- what refuses a document or a journal refuses the input
failures_of_documents : map failure_of_document (unaccepted.Memory ∷ unaccepted.Document (document.Tables 0) ∷ unaccepted.Tree 2 (tree.Short 1) ∷ unaccepted.Certificate 2 (bad.Name 1) ∷ [])
    ≡ failure.Memory ∷ failure.Document (document.Tables 0) ∷ failure.Tree 2 (tree.Short 1) ∷ failure.Certificate 2 (bad.Name 1) ∷ []
failures_of_documents = refl

failures_of_journals : map failure_of_journal (journal.Memory ∷ journal.Text text.NoEnd ∷ journal.Line line.Counts ∷ [])
    ≡ failure.Memory ∷ failure.Text text.NoEnd ∷ failure.Line line.Counts ∷ []
failures_of_journals = refl

told_outside : map line_of (failure.Words ∷ failure.Memory ∷ failure.ReadFault ∷ failure.WriteFault ∷ failure.TooLong ∷ [])
    ≡ codes "ats: 201 Words\n" ∷ codes "ats: 202 Memory\n" ∷ codes "ats: 207 ReadFault\n" ∷ codes "ats: 208 WriteFault\n" ∷ codes "ats: 104 TooLong limit=16777216\n" ∷ []
told_outside = refl

told_documents : map line_of (failure.Document (document.Shape shape.NotJson) ∷ failure.Tree 2 (tree.Short 1) ∷ failure.Certificate 2 (bad.MovePoint 4 0 1) ∷ [])
    ≡ codes "ats: 101 NotJson\n" ∷ codes "ats: 41 Short table=2 missing=1\n" ∷ codes "ats: 56 MovePoint table=2 index=4 train=0 other=1\n" ∷ []
unfolding digits
told_documents = refl

told_making : map line_of (failure.Spent 1 8 ∷ failure.Stuck 0 (0 ∷ 0 ∷ []) ∷ failure.Rounds 1 2 (3 ∷ 4 ∷ []) ∷ failure.Many 1 65 ∷ failure.Connected 3 ∷ [])
    ≡ codes "ats: 205 Spent table=1 nodes=8\n" ∷ codes "ats: 206 Stuck table=0 at=0,0\n" ∷ codes "ats: 209 Rounds table=1 rounds=2 at=3,4\n" ∷ codes "ats: 121 Many table=1 count=65\n" ∷ codes "ats: 210 Connected table=3\n" ∷ []
unfolding digits
told_making = refl

told_journals : map line_of (failure.NoJournal ∷ failure.Text (text.Number 5) ∷ failure.Line (line.Move 2 (ask.Full 0 1)) ∷ [])
    ≡ codes "ats: 70 NoJournal\n" ∷ codes "ats: 72 Number line=5\n" ∷ codes "ats: 75 Move line=2 Full section=0 count=1\n" ∷ []
unfolding digits
told_journals = refl

checked : checked_text 2 31 ≡ codes "accepted tables=2 nodes=31\n"
unfolding digits
checked = refl

verified : verified_text (record { lines = []; moves = 12; tables = 3 }) ≡ codes "ok moves=12 tables=3\n"
unfolding digits
verified = refl

abbrev names : Names
names = record { points = codes "A" ∷ codes "B" ∷ codes "C" ∷ []; trains = codes "T0" ∷ codes "T1" ∷ [] }

abbrev simulated : List Line
simulated = Move 0 0 (Some 1) ∷ Table 1 ∷ Move 1 2 None ∷ KeptDiffers 2 0 1 ∷ Move 0 1 None ∷ []

timed : timed_text names (0 ∷ 3 ∷ 3 ∷ 7 ∷ 24 ∷ []) simulated
    ≡ codes "0 move T0 A B\n3 table 1\n3 move T1 C -\n7 kept 2 differs T0 1\n24 move T0 B -\n"
unfolding digits
timed = refl

last : last_text simulated 24 ≡ codes "end moves=3 tables=1 last=24\n"
unfolding digits
last = refl
