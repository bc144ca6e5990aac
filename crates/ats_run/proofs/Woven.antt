-- Runs that begin with drawn turns.
use Rattle.std.proofs.Common.{◌≡◌, ℕ, ◌-◌, List, [], sym, subst}
use Rattle.rail_model.specs.declared.types.Line.{Line}
use Rattle.rail_model.specs.Table.{trains}
use Rattle.rail_model.specs.Certificate.{Tree}
use Rattle.rail_model.specs.Plain.{Plain}
use Rattle.rail_model.specs.Yard.{Yard, opening, offer, after, IsHistory}
use Rattle.rail_model.specs.Lines.{journal_of as lines_of}
use Rattle.rail_model.specs.Journal.{IsDone, text, with_counts}
use Rattle.rail_model.proofs.Histories.{journal_right, journal_leads}
use Rattle.plain_yard.specs.Keeps.{Keeps}
use Rattle.plain_yard.specs.Rounds.{Finishes}
use Rattle.plain_yard.proofs.Keeping.{whole_finish}
use Rattle.zone_machine.specs.Weave.{plain_of}
use Rattle.document_json.specs.Doc.{Doc, IsDoc, offers_of, names_of}
use Rattle.document_json.proofs.Offered.{legal_start}
use Rattle.accepted_documents.specs.Accepting.{AreAccepted}
use Rattle.ats_run.specs.Headline.{IsRun}
use Rattle.ats_answers.specs.Weaving.{IsWoven, core_of, woven}
use Rattle.ats_answers.proofs.GoingOn.{goes_on_well}

module _ (D : Doc) (doc : IsDoc D) (seed turns : ℕ) (legal : IsHistory (offers_of D) (opening D.start) (woven D seed turns).history) (state : Plain)
    (state_is : state ≡ plain_of (core_of D turns) [] (woven D seed turns)) where
  -- the state after the drawn turns stands for a legal run
  pub woven_keeps : Keeps (offers_of D) state.yard state.lines
  woven_keeps = subst (λ (s : Plain). Keeps (offers_of D) s.yard s.lines) (sym state_is) (record {
    are = doc.tables;
    start = D.start;
    legal = legal_start D doc;
    right = journal_right (offers_of D) (opening D.start) (woven D seed turns).history legal;
    reached = sym (journal_leads (offers_of D) (opening D.start) (woven D seed turns).history);
  })

  -- what the finish from there gives
  pub woven_run : (trees : List Tree) (z : Yard) (longer : List Line) (written : List ℕ) → AreAccepted D trees → IsDone (offers_of D) z
      → Finishes (offers_of D) state.yard (trains (offer (offers_of D) 0).table - 1) state.lines z longer → written ≡ text (names_of D) (with_counts longer)
      → (run : IsRun D written) × IsWoven D seed turns run.journal.lines
  woven_run trees z longer written accepted done finishes printed =
      let H = (woven D seed turns).history in
      let f = subst (λ (s : Plain). Finishes (offers_of D) s.yard (trains (offer (offers_of D) 0).table - 1) s.lines z longer) state_is finishes in
      let whole = whole_finish (offers_of D) D.start (after (opening D.start) H) z _ (lines_of (offers_of D) (opening D.start) H) longer
      (journal_right (offers_of D) (opening D.start) H legal) (sym (journal_leads (offers_of D) (opening D.start) H)) f done in (
        record {
          legal_start = legal_start D doc;
          journal = with_counts longer;
          trees = trees;
          accepted = accepted;
          whole = whole;
          goes_on_well = goes_on_well D trees longer doc accepted whole.right;
          printed = printed;
        },
        record { later = f.added; round = f.round; all = f.adds },
      )
