-- The text of a session tells its run.
use Rattle.std.proofs.Common.{◌≡◌, ℕ, zero, suc, List, [], ◌++◌, length, refl, sym, ap, subst, ◌∙◌, append_assoc, inl, inr, None, Some}
use Rattle.std.specs.Prelude.{Option, IfSome, replicate, slice_index_or}
use Rattle.ats_io.specs.Bytes.{Adds}
use Rattle.rail_model.specs.declared.types.Line.{Line}
use Rattle.rail_model.specs.Journal.{IsRight, after_lines}
use Rattle.rail_model.specs.Names.{Names}
use Rattle.rail_model.specs.Yard.{Offer, Yard, opening}
use Rattle.plain_yard.proofs.Keeping.{right_append}
use Rattle.plain_yard.proofs.Reaching.{after_append}
use Rattle.document_json.specs.Doc.{names_of, offers_of}
use Rattle.live_lines.proofs.Telling.{others_then, then_others}
use Rattle.live_lines.specs.Kinds.{IsTag, TellsLines}
use Rattle.live_session.proofs.Ending.{last_line}
use Rattle.live_session.proofs.Texts.{answered, last, opened}
use Rattle.live_session.specs.Answering.{last_text}
use Rattle.live_session.specs.Journals.{HasTags, IsLastLine}
use Rattle.live_session.specs.States.{SessionState, lines}
use Rattle.dispatch_run.specs.Dispatching.{IsDispatched}
use Rattle.dispatch_run.specs.LiveSessions.{live_sessions}
use Rattle.dispatch_run.specs.Running.{Closes, TellsRun}

-- no want has a tag where a session begins
no_tags : (n i : ℕ) → IsTag (slice_index_or (replicate n []) i [])
no_tags zero i = tt
no_tags (suc n) zero = tt
no_tags (suc n) (suc i) = no_tags n i

begins : (s : SessionState) (n : ℕ) → s.tags ≡ replicate n [] → HasTags s
begins s n none i = subst (λ (ts : List (List ℕ)). IsTag (slice_index_or ts i [])) (sym none) (no_tags n i)

-- the last line closes the run
closes : (tables : List Offer) (start : List ℕ) (all : List Line) (text : List ℕ)
    → IsRight tables (opening start) all → IsLastLine tables (after_lines (opening start) all) all text
    → Closes tables start all text
closes tables start all text right is = elim is [
  | inl done ↦ inl (record { right = right; done = done.0; moves = refl; exchanges = refl }, done.1)
  | inr more ↦ inr more
]

tells : (document input written : List ℕ) → IsDispatched live_sessions document input written
    → TellsRun document input written
tells document input written d =
    let D = d.opened.doc in
    let given = d.opened.state.lines in
    let s = d.served.session in
    let begun = d.served.begun in
    let talk = d.served.talk in
    let leads = d.opens.leads.leads in
    let end = talk.answered.0 in
    let ready = talk.ready in
    let answers = talk.answered.1 in
    let close = last_text end in
    let journal = answered s end _ answers talk.answered.2 (begins s _ begun.no_tags) talk.answered.3 in
    let added = journal.added in
    let all = given ++ added in
    let start = opening D.start in
    let right_given : IsRight (offers_of D) start given =
    subst (IsRight (offers_of D) start) (sym leads.lines) leads.right in
    let stands : s.dispatch.yard.run.yard ≡ after_lines start given =
    begun.restored.yard ∙ leads.yard ∙ ap (after_lines start) (sym leads.lines) in
    let right_added : IsRight (offers_of D) (after_lines start given) added =
    subst (λ (y : Yard). IsRight (offers_of D) y added) stands
    (subst (λ (ts : List Offer). IsRight ts s.dispatch.yard.run.yard added) begun.restored.same_tables
    journal.run.right) in
    let right : IsRight (offers_of D) start all =
    right_append (offers_of D) start given added right_given right_added in
    let lines_end : lines end ≡ all =
    journal.run.lines ∙ ap (λ (ls : List Line). ls ++ added) begun.restored.lines in
    let yard_end : end.dispatch.yard.run.yard ≡ after_lines start all =
    journal.run.leads ∙ ap (λ (y : Yard). after_lines y added) stands ∙ sym (after_append start given added) in
    let tables_end : end.dispatch.yard.run.tables ≡ offers_of D = journal.run.tables ∙ begun.restored.same_tables in
    let closing : IsLastLine (offers_of D) (after_lines start all) all close =
    subst (λ (ts : List Offer). IsLastLine ts (after_lines start all) all close) tables_end
    (subst (λ (y : Yard). IsLastLine end.dispatch.yard.run.tables y all close) yard_end
    (subst (λ (ls : List Line). IsLastLine end.dispatch.yard.run.tables end.dispatch.yard.run.yard ls close)
    lines_end
    (last_line end))) in
    let names : s.names ≡ names_of D = begun.names in
    let count : length (lines s) ≡ length given = ap (λ (ls : List Line). length ls) begun.restored.lines in
    let said : TellsLines (names_of D) (length given) added answers =
    subst (λ (N : Names). TellsLines N (length given) added answers) names
    (subst (λ n. TellsLines s.names n added answers) count journal.told) in
    let text : TellsLines (names_of D) (length given) added (ready ++ (answers ++ close)) =
    others_then (names_of D) (length given) added ready (answers ++ close)
    (opened s (names_of D) (length given) ready talk.opens)
    (then_others (names_of D) (length given) added answers close said (last end (names_of D) (length given))) in
    let joined : written ≡ ready ++ (answers ++ close) = talk.whole ∙ ap (λ (t : List ℕ). ready ++ t) talk.answered.4 in
    record {
      opened = d.opened;
      opens = d.opens;
      added = added;
      journal = subst (TellsLines (names_of D) (length given) added) (sym joined) text;
      right = right;
      told = ready ++ answers;
      last = close;
      whole = joined ∙ sym (append_assoc ready answers close);
      closes = closes (offers_of D) D.start all close right closing;
    }

-- a call that ends well
pub runs : (document : List ℕ) (held old new : Option (List ℕ))
    → IfSome held (λ input. (written : List ℕ) × IsDispatched live_sessions document input written
    × Adds old new written)
    → IfSome held (λ input. (written : List ℕ) × IsDispatched live_sessions document input written
    × TellsRun document input written × Adds old new written)
runs document None old new done = tt
runs document (Some input) old new (written, dispatched, adds) =
    (written, dispatched, tells document input written dispatched, adds)
