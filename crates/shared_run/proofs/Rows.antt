-- Rows: crews, the trains that each worker has, boarding and leaving, and a crew that makes no round.
use Rattle.std.proofs.Common.{◌≡◌, ◌-◌, ℕ, List, [], ◌∷◌, refl, arith, lit<, lit≤}
use Rattle.std.proofs.lemmas.List.Elements.{All-nil, All-cons, All-map}
use Rattle.rail_model.specs.declared.types.Line.{Line}
use Rattle.rail_model.specs.Journal.{IsRound}
use Rattle.zone_yard.specs.Setup.{Setup}
use Rattle.zone_yard.specs.Passes.{Pass, Root}
use Rattle.zone_yard.specs.Boarding.{fresh_root, with_pass}
use Rattle.zone_yard.proofs.Samples.{boarded, yes, one_zone, four_zones}
use Rattle.zone_yard.proofs.Rows.{granted_after}
use Rattle.shared_run.specs.declared.groups.Group.TheVariants.{Control}
use Rattle.shared_run.specs.Rounds.{Worked}
use Rattle.shared_run.specs.Crews.{crew_of, IsCrew, trains_of, dealt}
use Rattle.shared_run.specs.Shared.{fresh_pass, fresh_passes, IsRecorded, IsWorked, IsShared, IsAddedBy}
use Rattle.shared_run.specs.Boarding.{onto, AreOnce, passes_in, IsFresh, HaveBoarded, AreAshore, IsControlGroup}
use Rattle.shared_run.specs.Leaving.{HasSeen, entries_with, HaveLeft, HasLeft}

-- five trains dealt to two workers, and two to three
dealt_to_two : (dealt 5 2 0 ≡ 0 ∷ 2 ∷ 4 ∷ []) × (dealt 5 2 1 ≡ 1 ∷ 3 ∷ [])
dealt_to_two = (refl, refl)

dealt_to_three : (dealt 2 3 1 ≡ 1 ∷ []) × (dealt 2 3 2 ≡ [])
dealt_to_three = (refl, refl)

is_crew : IsCrew (crew_of 16 1000000 4)
is_crew = record { some = lit≤ tt; few = lit≤ tt; rounds = lit≤ tt; asks = lit≤ tt; block = lit≤ tt }

no_crew : IsCrew (crew_of 0 1000 1) → ⊥
no_crew is = let some = is.some in omega (arith, some)

one_by_one : onto {A = ℕ} (1 ∷ 2 ∷ []) (3 ∷ []) ≡ 2 ∷ 1 ∷ 3 ∷ []
one_by_one = refl

once : AreOnce (1 ∷ 2 ∷ []) × (AreOnce (1 ∷ 2 ∷ 1 ∷ []) → ⊥)
once = (((λ h. cc h), ((λ h. cc h), tt)), λ more. more.0 refl)

-- the first train has boarded
has_boarded : HaveBoarded (fresh_root one_zone) (boarded one_zone 0 ∷ []) (with_pass (fresh_root one_zone) 0)
has_boarded = record { now = refl; once = λ o. ((λ h. cc h), o); each = All-cons (IsFresh one_zone) (boarded one_zone 0) [] (refl, lit< tt, refl) (All-nil (IsFresh one_zone)) }

-- before that nobody had, and now one train of worker 0 has
ashore : AreAshore 2 0 (fresh_root one_zone) × (AreAshore 2 0 (with_pass (fresh_root one_zone) 0) → ⊥)
ashore = (((λ p at h. cc h), λ h. cc h), λ still. still.0 0 (lit≤ tt) refl)

-- it has left with its entry
abbrev root_after : Root
root_after = record (fresh_root one_zone) { seen = yes 0 ∷ []; done = entries_with (granted_after one_zone 0 []) ∷ []; boarded = 0 ∷ [] }

has_left : HaveLeft (with_pass (fresh_root one_zone) 0) (granted_after one_zone 0 [] ∷ []) root_after
has_left = record {
  own = (yes 0 ∷ [], refl);
  theirs = All-cons (HasSeen root_after) (granted_after one_zone 0 []) [] ([], refl) (All-nil (HasSeen root_after));
  out = refl;
  done = refl;
  yard = refl;
}

is_done : HasLeft root_after (granted_after one_zone 0 [])
is_done = record { seen = ([], refl); low = lit< tt; entries = refl; room = lit< tt }

-- a root that hasn't seen the entry isn't one to which the pass has left
not_unseen : HasLeft (record root_after { seen = [] }) (granted_after one_zone 0 []) → ⊥
not_unseen left = cc left.seen.1

one_control : IsControlGroup (fresh_pass one_zone 32) (Control (boarded one_zone 32)) × (passes_in (Control (boarded one_zone 32) ∷ []) ≡ boarded one_zone 32 ∷ [])
one_control = (refl, refl)

-- a crew without workers adds the round robin's lines, and any other those of a history and then the round robin's
alone : (S : Setup) (added : List Line) → IsAddedBy S (crew_of 0 1000 1) added → IsRound S.tables S.opening.yard (trains_of S - 1) added
alone S added by = by

shared : (S : Setup) (added : List Line) → IsAddedBy S (crew_of 2 1000 1) added → IsShared S (crew_of 2 1000 1) added
shared S added by = by

-- drivers that made no round
no_rounds : (drivers : List Pass) → Worked 0 1 drivers drivers
no_rounds drivers = record { told = []; made = refl; ends = refl }

-- two workers that make no round make no entry
nobody_asks : IsWorked (four_zones 9) (crew_of 2 0 1) []
nobody_asks = record {
  legal = tt;
  drivers = fresh_passes (four_zones 9) 2;
  worked = λ g lt. no_rounds (fresh_passes (four_zones 9) 2 g);
  recorded = λ g lt. All-map (IsRecorded []) (fresh_pass (four_zones 9)) (dealt 3 2 g) (λ k d within. record { begins = ([], refl); entries = refl; room = lit< tt });
  control = fresh_pass (four_zones 9) 32;
  turned = record { turns = []; made = refl; ends = refl };
  told = record { begins = ([], refl); entries = refl; room = lit< tt };
}

-- an entry of a pass that made none isn't in the history
not_recorded : IsRecorded (yes 0 ∷ []) (boarded one_zone 0) → ⊥
not_recorded is = cc is.entries

recorded : IsRecorded (yes 0 ∷ []) (granted_after one_zone 0 [])
recorded = record { begins = ([], refl); entries = refl; room = lit< tt }
