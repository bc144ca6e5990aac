-- Lines that a crew adds.
use Rattle.std.proofs.Common.{◌≡◌, ◌≤◌, ℕ, zero, suc, ◌-◌, List, ◌++◌, refl, sym, ap, ◌∙◌, subst, arith}
use Rattle.std.proofs.lemmas.List.{append_assoc}
use Rattle.rail_model.specs.declared.types.Line.{Line}
use Rattle.rail_model.specs.Plain.{Plain}
use Rattle.rail_model.specs.Yard.{Yard}
use Rattle.rail_model.specs.Journal.{IsRight, IsRound, after_lines}
use Rattle.rail_model.specs.Lines.{journal_of}
use Rattle.rail_model.proofs.Histories.{journal_right, journal_leads}
use Rattle.plain_yard.specs.Rounds.{Finishes}
use Rattle.plain_yard.proofs.Keeping.{right_append, round_right}
use Rattle.plain_yard.proofs.Reaching.{after_append}
use Rattle.zone_yard.specs.Setup.{Setup, IsLegalHistory}
use Rattle.shared_run.specs.declared.crews.Crew.{Crew}
use Rattle.shared_run.specs.Crews.{trains_of}
use Rattle.shared_run.specs.Shared.{IsWorkedTo, IsShared, IsAddedBy}

-- what this many workers add
abbrev ByWorkers : Setup → Crew → List Line → ℕ → Type 0
ByWorkers S crew added workers = elim workers [ zero ↦ IsRound S.tables S.opening.yard (trains_of S - 1) added | suc more ↦ IsShared S crew added ]

-- a crew of nobody adds the round robin's lines
pub added_alone : (S : Setup) (crew : Crew) (added : List Line) → crew.workers ≡ 0 → IsRound S.tables S.opening.yard (trains_of S - 1) added → IsAddedBy S crew added
added_alone S crew added none round = by (crew.workers) none
  where
    by : (workers : ℕ) → workers ≡ 0 → ByWorkers S crew added workers
    by zero none = round
    by (suc more) none = absurd (omega (arith, none))

-- a crew with workers adds its history's lines, and then the round robin's
pub added_shared : (S : Setup) (crew : Crew) (added : List Line) → 1 ≤ crew.workers → IsShared S crew added → IsAddedBy S crew added
added_shared S crew added some shared = by (crew.workers) some
  where
    by : (workers : ℕ) → 1 ≤ workers → ByWorkers S crew added workers
    by zero some = absurd (omega (arith, some))
    by (suc more) some = shared

-- a crew worked, and the round robin finished from there
module _ (S : Setup) (crew : Crew) (worked : Plain) (to : IsWorkedTo S crew worked) (end : Plain)
    (finishes : Finishes S.tables worked.yard (trains_of S - 1) worked.lines end.yard end.lines) where
  -- the lines of both
  abbrev pub all_added : List Line
  all_added = journal_of S.tables S.opening.yard to.history ++ finishes.added

  pub adds_all : end.lines ≡ S.opening.lines ++ all_added
  adds_all =
      finishes.adds ∙ ap (λ (ls : List Line). ls ++ finishes.added) to.lines
      ∙ append_assoc S.opening.lines (journal_of S.tables S.opening.yard to.history) finishes.added

  -- the state after the history's lines
  leads : worked.yard ≡ after_lines S.opening.yard (journal_of S.tables S.opening.yard to.history)
  leads = to.reached ∙ sym (journal_leads S.tables S.opening.yard to.history)

  pub all_right : IsRight S.tables S.opening.yard all_added
  all_right =
      right_append S.tables S.opening.yard (journal_of S.tables S.opening.yard to.history) finishes.added
      (journal_right S.tables S.opening.yard to.history (subst (λ (T : Setup). IsLegalHistory T to.history) to.made to.worked.legal))
      (subst (λ (y : Yard). IsRight S.tables y finishes.added) leads (round_right S.tables worked.yard _ finishes.added finishes.round))

  pub after_all : end.yard ≡ after_lines S.opening.yard all_added
  after_all =
      finishes.after ∙ ap (λ (y : Yard). after_lines y finishes.added) leads
      ∙ sym (after_append S.opening.yard (journal_of S.tables S.opening.yard to.history) finishes.added)

  pub all_shared : IsShared S crew all_added
  all_shared = record {
    yard = to.yard;
    made = to.made;
    history = to.history;
    worked = to.worked;
    later = finishes.added;
    round = subst (λ (y : Yard). IsRound S.tables y (trains_of S - 1) finishes.added) to.reached finishes.round;
    all = refl;
  }
