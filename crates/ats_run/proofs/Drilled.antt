-- From the end of a run to its counts.
use Rattle.std.proofs.Common.{◌≡◌, ℕ, List, [], length, refl, ◌∙◌}
use Rattle.rail_model.specs.Certificate.{Tree}
use Rattle.rail_model.specs.Plain.{Plain}
use Rattle.rail_model.specs.Journal.{Journal, text, with_counts}
use Rattle.plain_yard.specs.Keeps.{Keeps}
use Rattle.document_json.specs.Doc.{Doc, IsDoc, offers_of, names_of}
use Rattle.shared_run.specs.declared.crews.Crew.{Crew}
use Rattle.ats_run.specs.Headline.{Ends, plain_after}
use Rattle.accepted_documents.specs.Accepting.{AreAccepted}
use Rattle.ats_answers.specs.Checking.{nodes_below}
use Rattle.ats_run.specs.Drilling.{IsDrilled, IsDrillLine, drill_text}
use Rattle.ats_run.proofs.OneTable.{all_moves, none_exchanged}
use Rattle.ats_run.proofs.Runs.{runs}

-- the counts of the run of a document with one table
pub drilled : (D : Doc) (trees : List Tree) (crew : Crew) (end : Plain) (K : Journal) (count nodes : ℕ) (bytes : List ℕ) → IsDoc D → length D.tables ≡ 1
    → AreAccepted D trees → Keeps (offers_of D) end.yard end.lines → Ends D crew (plain_after D []) end
    → K ≡ with_counts end.lines → count ≡ length D.trains → nodes ≡ nodes_below trees (length trees)
    → bytes ≡ drill_text count K.moves K.tables nodes → IsDrilled D crew bytes
unfolding runs
drilled D trees crew end K count nodes bytes doc one accepted keeps ends is counted summed printed =
    let run = runs D trees crew end (text (names_of D) (with_counts end.lines)) doc accepted ends refl in
    record {
      one_table = one;
      text = text (names_of D) (with_counts end.lines);
      run = run.0;
      by = run.1;
      moves = all_moves D crew end one keeps ends;
      exchanges = none_exchanged D crew end one ends;
      printed = printed ∙ (λ i. drill_text (counted i) (is i).moves (is i).tables (summed i));
    }

-- the line of a drill has no crew in it
pub any_drill : (D : Doc) (crew : Crew) (bytes : List ℕ) → IsDrilled D crew bytes → IsDrillLine D bytes
any_drill D crew bytes drilled = (
  drilled.run.trees,
  drilled.run.accepted,
  drilled.printed ∙ (λ i. drill_text (length D.trains) (drilled.moves i) (drilled.exchanges i) (nodes_below drilled.run.trees (length drilled.run.trees))),
)
