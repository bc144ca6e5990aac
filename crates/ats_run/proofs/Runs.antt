-- From the end of a run to what is promised of its text.
use Rattle.std.proofs.Common.{◌≡◌, ℕ, List, [], sym, ◌∙◌, ap, subst}
use Rattle.rail_model.specs.Certificate.{Tree}
use Rattle.rail_model.specs.Yard.{opening}
use Rattle.rail_model.specs.Plain.{Plain}
use Rattle.rail_model.specs.Journal.{IsRight, after_lines, text, with_counts}
use Rattle.plain_yard.specs.Keeps.{Keeps}
use Rattle.plain_yard.proofs.Keeping.{whole}
use Rattle.shared_run.specs.declared.crews.Crew.{Crew}
use Rattle.document_json.specs.Doc.{Doc, IsDoc, offers_of, names_of}
use Rattle.document_json.proofs.Offered.{legal_start}
use Rattle.accepted_documents.specs.Accepting.{AreAccepted}
use Rattle.ats_run.specs.Headline.{IsRun, IsRunBy, Ends, plain_after}
use Rattle.ats_answers.proofs.GoingOn.{goes_on_well}

-- a run's lines lead to its end
pub ends_keep : (D : Doc) (crew : Crew) (end : Plain) → IsDoc D → Ends D crew (plain_after D []) end → Keeps (offers_of D) end.yard end.lines
ends_keep D crew end doc ends = record {
  are = doc.tables;
  start = D.start;
  legal = legal_start D doc;
  right = subst (IsRight (offers_of D) (opening D.start)) (sym ends.adds) ends.right;
  reached = ends.after ∙ ap (after_lines (opening D.start)) (sym ends.adds);
}

-- what the end of a document's run gives
unfoldable pub runs : (D : Doc) (trees : List Tree) (crew : Crew) (end : Plain) (written : List ℕ) → IsDoc D → AreAccepted D trees
    → Ends D crew (plain_after D []) end → written ≡ text (names_of D) (with_counts end.lines) → (run : IsRun D written) × IsRunBy D crew [] run.journal.lines
unfolding ends_keep
runs D trees crew end written doc accepted ends printed =
    let run = ends_keep D crew end doc ends in (
      record {
        legal_start = legal_start D doc;
        journal = with_counts end.lines;
        trees = trees;
        accepted = accepted;
        whole = whole (offers_of D) end.yard end.lines run ends.done;
        goes_on_well = goes_on_well D trees end.lines doc accepted run.right;
        printed = printed;
      },
      subst (IsRunBy D crew []) (sym ends.adds) ends.by,
    )
