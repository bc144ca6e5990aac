-- Worked rows: a document that is checked and run, its journal that is verified, and a run that goes on.
use Rattle.std.proofs.Common.{◌≡◌, ℕ, List, [], ◌∷◌, ◌++◌, codes, Ok, refl, sym, ap, arith, lit<, lit≤, inr}
use Rattle.std.specs.Fmt.{digits}
use Rattle.ats_words.specs.declared.orders.Order.TheVariants.{Run, Resume, Check, Verify, Weave}
use Rattle.rail_model.specs.Yard.{opening}
use Rattle.rail_model.specs.Journal.{IsRound}
use Rattle.document_json.specs.Doc.{IsDoc, offers_of}
use Rattle.document_json.specs.Reading.{doc_of}
use Rattle.document_json.proofs.FormedDoc.{read-is-formed}
use Rattle.shared_run.specs.Crews.{crew_of}
use Rattle.ats_run.specs.Command.{Comes}
use Rattle.ats_run.specs.Headline.{IsRun, IsRoundRobin, Ends, plain_after}
use Rattle.ats_answers.specs.Journals.{IsCutAt, document_part, journal_part}
use Rattle.ats_answers.proofs.GoingOn.{goes_on_well}
use Rattle.accepted_documents.proofs.Samples.{good, trees, accepted}
use Rattle.accepted_documents.proofs.JournalRows.{legal_at, line, lines, done, journal, whole, run_text, is_text, nothing, is_front}

checked : (input : List ℕ) → doc_of input ≡ Ok good → Comes Check input (Ok (codes "accepted tables=1 nodes=3\n"))
unfolding digits
checked input read = (good, read, record { trees = trees; accepted = accepted; printed = refl })

round : IsRound (offers_of good) (opening (0 ∷ [])) 0 lines
round = (
  line,
  λ due. omega (arith, due.0),
  record { steps = 0; in_round = lit< tt; reached = refl; skipped = λ k none. absurd (omega (arith, none)) },
  done,
)

is_run : IsDoc good → IsRun good run_text
unfolding digits
is_run formed = record {
  legal_start = legal_at 0 (lit≤ tt);
  journal = journal;
  trees = trees;
  accepted = accepted;
  whole = whole;
  goes_on_well = goes_on_well good trees lines formed accepted (line, tt);
  printed = refl;
}

is_round_robin : IsRoundRobin good (opening (0 ∷ [])) lines
is_round_robin = round

-- the run from its start, by nobody but the round robin
ends : Ends good (crew_of 0 5 1) (plain_after good []) (plain_after good lines)
ends = record { added = lines; adds = refl; right = (line, tt); after = refl; by = round; done = done }

run : (input : List ℕ) → doc_of input ≡ Ok good → Comes (Run 0 5 1) input (Ok run_text)
unfolding is_run
run input read = (good, read, (is_run (read-is-formed input good read).is, is_round_robin))

-- a run that begins with no turn is the round robin's
woven : (input : List ℕ) → doc_of input ≡ Ok good → Comes (Weave 7 0) input (Ok run_text)
unfolding is_run
woven input read = (good, read, (is_run (read-is-formed input good read).is, record { later = lines; round = round; all = refl }))

verified : (input : List ℕ) (k : ℕ) → IsCutAt input k → doc_of (document_part input k) ≡ Ok good → journal_part input k ≡ run_text
    → Comes Verify input (Ok (codes "ok moves=1 tables=0\n"))
unfolding digits
verified input k cut read same =
    (k, cut, (good, read, record { journal = journal; trees = trees; accepted = accepted; text = is_text (journal_part input k) same; whole = whole; printed = refl }))

-- from no line on the whole journal is written
resumed : (input : List ℕ) (k : ℕ) → IsCutAt input k → doc_of (document_part input k) ≡ Ok good → journal_part input k ≡ [] → Comes (Resume 0 5 1) input (Ok run_text)
unfolding digits
resumed input k cut read none = (
  k,
  cut,
  (
    good,
    read,
    record {
      run = is_run (read-is-formed (document_part input k) good read).is;
      rest = run_text;
      begins = sym (ap (λ (xs : List ℕ). xs ++ run_text) none);
      continued = inr (nothing, is_front (journal_part input k) none, record { added = lines; by = round; printed = refl });
    },
  ),
)
