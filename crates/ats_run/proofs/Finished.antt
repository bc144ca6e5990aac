-- How a run ends: by the round robin alone, or after workers.
use Rattle.std.proofs.Common.{◌≡◌, ◌≤◌, ◌-◌, List, sym, subst, lit<, lit≤}
use Rattle.rail_model.specs.Layout.{Layout}
use Rattle.rail_model.specs.Table.{trains}
use Rattle.rail_model.specs.Plain.{Plain}
use Rattle.rail_model.specs.Yard.{Offer, offer}
use Rattle.rail_model.specs.Journal.{IsDone}
use Rattle.plain_yard.specs.Keeps.{Keeps}
use Rattle.plain_yard.specs.Rounds.{Finishes}
use Rattle.plain_yard.proofs.Keeping.{round_right}
use Rattle.zone_yard.specs.Setup.{IsSetup}
use Rattle.shared_run.specs.declared.crews.Crew.{Crew}
use Rattle.shared_run.specs.Shared.{setup, IsWorkedTo}
use Rattle.shared_run.proofs.Added.{added_alone, added_shared, all_added, adds_all, all_right, after_all, all_shared}
use Rattle.document_json.specs.Doc.{Doc, IsDoc, offers_of}
use Rattle.document_json.proofs.Offered.{on_layout}
use Rattle.ats_run.specs.Headline.{Ends}

-- a shared yard can open with a state of a document's run
pub is_setup : (D : Doc) (layout : Layout) (tables : List Offer) (from : Plain) → IsDoc D → layout ≡ D.layout → tables ≡ offers_of D
    → Keeps (offers_of D) from.yard from.lines → IsSetup (setup layout tables from)
is_setup D layout tables from doc same_layout same_tables keeps =
    subst (λ (L : Layout). IsSetup (setup L tables from)) (sym same_layout)
    (subst (λ (ts : List Offer). IsSetup (setup D.layout ts from)) (sym same_tables)
    (record { keeps = keeps; on = on_layout D doc; some_calls = lit≤ tt; few_calls = lit< tt }))

-- what a crew left stands for a legal run of the document
pub worked_keeps : (D : Doc) (crew : Crew) (layout : Layout) (tables : List Offer) (from worked : Plain) → tables ≡ offers_of D
    → IsWorkedTo (setup layout tables from) crew worked → Keeps (offers_of D) worked.yard worked.lines
worked_keeps D crew layout tables from worked same to = subst (λ (ts : List Offer). Keeps ts worked.yard worked.lines) same to.keeps

module _ (D : Doc) (crew : Crew) (from end : Plain) (done : IsDone (offers_of D) end.yard) where
  -- the round robin alone ends a run without workers
  pub alone_ends : crew.workers ≡ 0 → Finishes (offers_of D) from.yard (trains (offer (offers_of D) 0).table - 1) from.lines end.yard end.lines → Ends D crew from end
  alone_ends nobody finishes = record {
    added = finishes.added;
    adds = finishes.adds;
    right = round_right (offers_of D) from.yard _ finishes.added finishes.round;
    after = finishes.after;
    by = added_alone (setup D.layout (offers_of D) from) crew finishes.added nobody finishes.round;
    done = done;
  }

  -- from the state to which the crew worked
  worked_ends : (worked : Plain) → 1 ≤ crew.workers → IsWorkedTo (setup D.layout (offers_of D) from) crew worked
      → Finishes (offers_of D) worked.yard (trains (offer (offers_of D) 0).table - 1) worked.lines end.yard end.lines → Ends D crew from end
  worked_ends worked some to finishes =
      let S = setup D.layout (offers_of D) from in
      record {
        added = all_added S crew worked to end finishes;
        adds = adds_all S crew worked to end finishes;
        right = all_right S crew worked to end finishes;
        after = after_all S crew worked to end finishes;
        by = added_shared S crew (all_added S crew worked to end finishes) some (all_shared S crew worked to end finishes);
        done = done;
      }

  -- the same, where layout and tables are known as the document's
  pub shared_ends : (layout : Layout) (tables : List Offer) (worked : Plain) → layout ≡ D.layout → tables ≡ offers_of D → 1 ≤ crew.workers
      → IsWorkedTo (setup layout tables from) crew worked
      → Finishes (offers_of D) worked.yard (trains (offer (offers_of D) 0).table - 1) worked.lines end.yard end.lines → Ends D crew from end
  shared_ends layout tables worked same_layout same_tables some to finishes =
      worked_ends worked some
      (subst (λ (ts : List Offer). IsWorkedTo (setup D.layout ts from) crew worked) same_tables
      (subst (λ (L : Layout). IsWorkedTo (setup L tables from) crew worked) same_layout to)) finishes
