-- Worked rows: documents that aren't accepted, and the faults of journals as refusals.
use Rattle.std.proofs.Common.{◌≡◌, ℕ, List, [], ◌∷◌, Ok, Err, refl, arith, lit<, lit≤}
use Rattle.std.specs.Prelude.{map}
use Rattle.std.proofs.lemmas.List.Elements.{All-nil}
use Rattle.rail_model.specs.declared.types.Bad.TheVariants as bad
use Rattle.rail_model.specs.declared.types.Node.TheVariants.{Arrived}
use Rattle.rail_model.specs.Certificate.{arrived, full_box, FirstBad, IsGood}
use Rattle.document_json.specs.declared.refused.DocRefused.TheVariants.{Tables}
use Rattle.document_json.specs.Doc.{Doc}
use Rattle.document_json.specs.Reading.{doc_of}
use Rattle.document_json.specs.Trees.{IsTreeOf, tree_at}
use Rattle.move_journal.specs.declared.faults.BadText.TheVariants as text
use Rattle.move_journal.specs.declared.faults.BadLine.TheVariants as line
use Rattle.accepted_documents.specs.declared.refused.Unaccepted.TheVariants.{Document, Certificate}
use Rattle.accepted_documents.specs.declared.refused.BadJournal.TheVariants.{Memory, Text, Line}
use Rattle.accepted_documents.specs.Accepting.{IsBadTable, IsUnaccepted, Rejects}
use Rattle.accepted_documents.specs.Refusing.{bad_text, bad_line}
use Rattle.accepted_documents.proofs.Samples.{table, one_train, the_only}

no_document : (input : List ℕ) → doc_of input ≡ Err (Tables 0) → IsUnaccepted input (Document (Tables 0))
no_document input refused = refused

-- a certificate that says of each place that the train has arrived
abbrev pub not_good : Doc
not_good = one_train (Arrived ∷ [])

not_arrived : FirstBad table arrived (bad.Arrived 0 0)
not_arrived = record {
  box = full_box table;
  node = Arrived;
  front = [];
  rest = [];
  spelled = refl;
  index = refl;
  earlier = All-nil (λ v. IsGood table v.0 v.1);
  refused = (
    (lit< tt, λ at_end. let low : 0 ≡ 1 = at_end.0 in omega (arith, low)),
    λ j none not_there. omega (arith, none),
  );
}

pub bad_table : IsBadTable not_good 0 (bad.Arrived 0 0)
bad_table = (
  arrived ∷ [],
  record { one_each = refl; spelled = the_only (λ t. IsTreeOf not_good t (tree_at (arrived ∷ []) t)) (refl, lit≤ tt) },
  record { in_range = lit< tt; earlier = λ u none. absurd (omega (arith, none)); first_bad = not_arrived },
)

unaccepted : (input : List ℕ) → doc_of input ≡ Ok not_good → IsUnaccepted input (Certificate 0 (bad.Arrived 0 0))
unaccepted input read = (not_good, read, bad_table)

-- the same of a table that has number 2, which isn't rejected as one with number 0
rejected : Rejects 2 table arrived (Certificate 2 (bad.Arrived 0 0))
rejected = (refl, not_arrived)

not_of_table_0 : Rejects 2 table arrived (Certificate 0 (bad.Arrived 0 0)) → ⊥
not_of_table_0 h = let same : 0 ≡ 2 = h.0 in omega (arith, same)

-- being out of memory is no fault of the journal
faults_of_texts : map bad_text (text.Memory ∷ text.NoEnd ∷ text.Line 3 ∷ [])
    ≡ Memory ∷ Text text.NoEnd ∷ Text (text.Line 3) ∷ []
faults_of_texts = refl

faults_of_lines : map bad_line (line.Memory ∷ line.Counts ∷ line.Table 3 ∷ [])
    ≡ Memory ∷ Line line.Counts ∷ Line (line.Table 3) ∷ []
faults_of_lines = refl
