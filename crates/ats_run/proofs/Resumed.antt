-- Runs that go on from a journal.
use Rattle.std.proofs.Common.{◌≡◌, ℕ, ◌+◌, List, [], ◌++◌, length, sym, ◌∙◌, ap, subst, inl, inr}
use Rattle.std.proofs.lemmas.List.{append-nil}
use Rattle.rail_model.specs.declared.types.Line.{Line}
use Rattle.rail_model.specs.Certificate.{Tree}
use Rattle.rail_model.specs.Plain.{Plain}
use Rattle.rail_model.specs.Yard.{opening}
use Rattle.rail_model.specs.Journal.{Journal, IsWhole, IsRight, after_lines, text, lines_text, end_text, with_counts}
use Rattle.plain_yard.specs.Keeps.{Keeps}
use Rattle.plain_yard.proofs.Keeping.{right_append, whole}
use Rattle.plain_yard.proofs.Reaching.{after_append}
use Rattle.move_journal.specs.Answers.{IsTextOf, IsFrontOf}
use Rattle.move_journal.proofs.Fronts.{text_goes_on}
use Rattle.shared_run.specs.declared.crews.Crew.{Crew}
use Rattle.document_json.specs.Doc.{Doc, IsDoc, offers_of, names_of}
use Rattle.document_json.proofs.Offered.{legal_start}
use Rattle.accepted_documents.specs.Accepting.{AreAccepted}
use Rattle.ats_run.specs.Headline.{IsRun, Ends}
use Rattle.ats_run.specs.Resuming.{IsResumed}
use Rattle.ats_answers.proofs.GoingOn.{goes_on_well}

-- the text of a whole journal is that of a run
run_of_whole : (D : Doc) (trees : List Tree) (J : Journal) (written : List ℕ) → IsDoc D → AreAccepted D trees → IsWhole (offers_of D) (opening D.start) J
    → written ≡ text (names_of D) J → IsRun D written
run_of_whole D trees J written doc accepted whole printed = record {
  legal_start = legal_start D doc;
  journal = J;
  trees = trees;
  accepted = accepted;
  whole = whole;
  goes_on_well = goes_on_well D trees J.lines doc accepted whole.right;
  printed = printed;
}

pub resumed_whole : (D : Doc) (trees : List Tree) (crew : Crew) (J : Journal) (given written : List ℕ) → IsDoc D → AreAccepted D trees
    → IsWhole (offers_of D) (opening D.start) J → IsTextOf (names_of D) given J → written ≡ given → IsResumed D crew given written
resumed_whole D trees crew J given written doc accepted whole text same = record {
  run = run_of_whole D trees J written doc accepted whole (same ∙ text.text);
  rest = [];
  begins = same ∙ sym (append-nil given);
  continued = inl ((J, text), same);
}

-- the state of a front's replay, and the end of a run from it
pub resumed_front : (D : Doc) (trees : List Tree) (crew : Crew) (front : Journal) (given written : List ℕ) (from end : Plain) → IsDoc D → AreAccepted D trees
    → IsFrontOf (names_of D) given front → IsRight (offers_of D) (opening D.start) front.lines → from.yard ≡ after_lines (opening D.start) front.lines
    → from.lines ≡ front.lines → Ends D crew from end → written ≡ text (names_of D) (with_counts end.lines) → IsResumed D crew given written
resumed_front D trees crew front given written from end doc accepted is_front right reached same from_ends printed =
    let ends = subst (λ (s : Plain). Ends D crew s end) (λ i. record { yard = reached i; lines = same i }) from_ends in
    let run : Keeps (offers_of D) end.yard end.lines = record {
      are = doc.tables;
      start = D.start;
      legal = legal_start D doc;
      right = subst (IsRight (offers_of D) (opening D.start)) (sym ends.adds)
          (right_append (offers_of D) (opening D.start) front.lines ends.added right ends.right);
      reached = ends.after ∙ sym (after_append (opening D.start) front.lines ends.added) ∙ ap (after_lines (opening D.start)) (sym ends.adds);
    } in
    record {
      run = run_of_whole D trees (with_counts end.lines) written doc accepted (whole (offers_of D) end.yard end.lines run ends.done) printed;
      rest = lines_text (names_of D) (length front.lines + 1) ends.added ++ end_text (with_counts end.lines).moves (with_counts end.lines).tables;
      begins = printed ∙ text_goes_on (names_of D) given front (with_counts end.lines) ends.added is_front ends.adds;
      continued = inr (
        front,
        is_front,
        record { added = ends.added; by = ends.by; printed = printed ∙ ap (λ (ls : List Line). text (names_of D) (with_counts ls)) ends.adds },
      );
    }
