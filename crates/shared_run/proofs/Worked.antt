-- A crew that boarded, worked and left: what it did, and that the root has all its entries.
use Rattle.std.proofs.Common.{◌≡◌, ◌<◌, ◌≤◌, ◌+◌, ◌*◌, ℕ, List, [], ◌∷◌, ◌++◌, refl, length, get_or, map, sym, ap, ◌∙◌, subst, arith}
use Rattle.std.specs.List.{All, AllZip, AllByRecursion}
use Rattle.std.proofs.lemmas.List.Elements.{All-weaker, All-from_recursion, recursion_from_All, AllZip-get_or}
use Rattle.rail_model.specs.Lines.{journal_of}
use Rattle.rail_model.specs.Plain.{Plain}
use Rattle.rail_model.specs.Yard.{control as control_number}
use Rattle.plain_yard.specs.Keeps.{Keeps}
use Rattle.zone_yard.specs.Setup.{SharedYard, most_passes, state_after, IsLegalHistory}
use Rattle.zone_yard.specs.Passes.{Pass, Root, done_of}
use Rattle.zone_yard.specs.Entering.{HasRoom}
use Rattle.zone_yard.specs.Boarding.{fresh_root, Closes}
use Rattle.shared_run.specs.declared.groups.Group.{Group}
use Rattle.shared_run.specs.declared.groups.Group.TheVariants.{Drivers, Control}
use Rattle.shared_run.specs.Rounds.{HasFinished, IsLastTurn, Worked, Turned}
use Rattle.shared_run.specs.Groups.{GroupWorked}
use Rattle.shared_run.proofs.Ended.{ended_within}
use Rattle.shared_run.specs.declared.crews.Crew.{Crew}
use Rattle.shared_run.specs.Crews.{IsCrew}
use Rattle.shared_run.specs.Shared.{fresh_pass, fresh_passes, IsRecorded, IsWorkedTo}
use Rattle.shared_run.specs.Boarding.{onto, AreOnce, numbers, passes_of, passes_in, IsFresh, HaveBoarded, HasDrivers, IsControlGroup, AreDealt}
use Rattle.shared_run.specs.Leaving.{HasSeen, HaveLeft, HasLeft, HasWorked, entries_with}
use Rattle.shared_run.proofs.Lists.{each_part, zip_weaker, zip_parts, all_zipped, zip_long}
use Rattle.shared_run.proofs.Grown.{Grew, grew_more, rounds_grew, turns_grew}
use Rattle.shared_run.proofs.Done.{each_done}

-- each pass of a group that has worked is the same, with some entries more
group_grew : (rounds steps : ℕ) (old new : Group) → steps ≤ 4 → GroupWorked rounds steps old new → AllZip (Grew (4 * rounds)) (passes_of old) (passes_of new)
group_grew rounds steps (Drivers olds) (Drivers news) le worked =
    let most = ended_within HasFinished rounds worked.told worked.ends in
    zip_weaker (Grew (4 * length worked.told)) (Grew (4 * rounds)) (λ x y. grew_more (4 * length worked.told) (4 * rounds) x y (omega (arith, most)))
    olds.items news.items (rounds_grew steps worked.told olds.items news.items le worked.made)
group_grew rounds steps (Control old) (Control new) le turned =
    let most = ended_within IsLastTurn rounds turned.turns turned.ends in
    (grew_more (length turned.turns) (4 * rounds) old new (omega (arith, most)) (turns_grew old new turned.turns turned.made), tt)
group_grew rounds steps (Drivers olds) (Control new) le none = absurd none
group_grew rounds steps (Control old) (Drivers news) le none = absurd none

same_numbers : (most : ℕ) (olds news : List Pass) → AllZip (Grew most) olds news → numbers news ≡ numbers olds
same_numbers most [] [] zip = refl
same_numbers most [] (n ∷ news) zip = absurd zip
same_numbers most (o ∷ olds) [] zip = absurd zip
same_numbers most (o ∷ olds) (n ∷ news) zip = λ i. zip.0.number i ∷ same_numbers most olds news zip.1 i

-- a group that had these drivers
drivers_worked : (rounds steps : ℕ) (passes : List Pass) (old new : Group) → HasDrivers passes old → GroupWorked rounds steps old new → Worked rounds steps passes (passes_of new)
drivers_worked rounds steps passes (Drivers olds) (Drivers news) has worked = subst (λ ps. Worked rounds steps ps news.items) has worked
drivers_worked rounds steps passes (Drivers olds) (Control new) has none = absurd none
drivers_worked rounds steps passes (Control old) new none worked = absurd none

-- a group that was this control
control_worked : (rounds steps : ℕ) (pass : Pass) (old new : Group) → IsControlGroup pass old → GroupWorked rounds steps old new
    → (control : Pass) × (passes_of new ≡ control ∷ []) × Turned rounds pass control
control_worked rounds steps pass (Control old) (Control new) is turned = (new, refl, subst (λ p. Turned rounds p new) is turned)
control_worked rounds steps pass (Control old) (Drivers news) is none = absurd none
control_worked rounds steps pass (Drivers olds) new none worked = absurd none

both_hold : {A : Type 0} (P Q R : A → Type 0) → ((x : A) → P x → Q x → R x) → (xs : List A) → AllByRecursion P xs → AllByRecursion Q xs → AllByRecursion R xs
both_hold P Q R gives [] ps qs = tt
both_hold P Q R gives (x ∷ xs) ps qs = (gives x ps.0 qs.0, both_hold P Q R gives xs ps.1 qs.1)

module _ (yard : SharedYard) (crew : Crew) (groups news : List Group) (old mid new : Root) where
  grew_all : IsCrew crew → AllZip (GroupWorked crew.rounds crew.block) groups news → AllZip (Grew (4 * crew.rounds)) (passes_in groups) (passes_in news)
  grew_all is worked =
      zip_parts (Grew (4 * crew.rounds)) passes_of groups news
      (zip_weaker (GroupWorked crew.rounds crew.block) (λ x y. AllZip (Grew (4 * crew.rounds)) (passes_of x) (passes_of y))
      (λ x y did. group_grew crew.rounds crew.block x y is.block did) groups news worked)

  -- The pass may make more entries, and has a number that a pass can have.
  abbrev IsLow : Pass → Type 0
  IsLow pass = (pass.number < most_passes) × HasRoom pass

  -- The root has seen all that the pass has seen, and has its entries.
  abbrev HasEntries : Pass → Type 0
  HasEntries pass = HasSeen new pass × (done_of pass.number new.done ≡ pass.mine)

  low : IsCrew crew → 4000000 < yard.setup.calls → (x y : Pass) → Grew (4 * crew.rounds) x y → IsFresh yard x → IsLow y
  low is calls x y grew fresh =
      let none : length x.mine ≡ 0 = ap length fresh.2 in
      let same : y.yard.setup.calls ≡ yard.setup.calls = ap (λ (w : SharedYard). w.setup.calls) (grew.yard ∙ fresh.0) in
      let few = grew.few in
      let rounds = is.rounds in
      (subst (λ n. n < most_passes) (sym grew.number) fresh.1, omega (arith, none, same, few, rounds, calls))

  pub has_worked : old ≡ fresh_root yard → IsCrew crew → 4000000 < yard.setup.calls → HaveBoarded old (passes_in groups) mid → AreDealt yard crew.workers groups
      → AllZip (GroupWorked crew.rounds crew.block) groups news → HaveLeft mid (passes_in news) new → HasWorked yard crew new
  has_worked fresh is calls boarded dealt worked left =
      let grew = grew_all is worked in
      let once : AreOnce (onto (numbers (passes_in news)) []) =
      subst AreOnce (ap (λ (r : Root). r.boarded) boarded.now ∙ (λ i. onto (sym (same_numbers (4 * crew.rounds) (passes_in groups) (passes_in news) grew) i) (fresh i).boarded))
      (boarded.once (subst (λ (r : Root). AreOnce r.boarded) (sym fresh) tt)) in
      let done : new.done ≡ onto (map entries_with (passes_in news)) [] =
      left.done ∙ ap (λ ds. onto (map entries_with (passes_in news)) ds) (ap (λ (r : Root). r.done) boarded.now ∙ ap (λ (r : Root). r.done) fresh) in
      let entries : AllByRecursion (λ (p : Pass). done_of p.number new.done ≡ p.mine) (passes_in news) =
      subst (λ ds. AllByRecursion (λ (p : Pass). done_of p.number ds ≡ p.mine) (passes_in news)) (sym done) (each_done (passes_in news) [] once) in
      let lows : AllByRecursion IsLow (passes_in news) =
      all_zipped (Grew (4 * crew.rounds)) (IsFresh yard) IsLow (low is calls) (passes_in groups) (passes_in news) grew
      (recursion_from_All (IsFresh yard) (passes_in groups) (subst (λ y. All (IsFresh y) (passes_in groups)) (ap (λ (r : Root). r.yard) fresh) boarded.each)) in
      let recorded : AllByRecursion HasEntries (passes_in news) =
      both_hold (HasSeen new) (λ (p : Pass). done_of p.number new.done ≡ p.mine) HasEntries (λ p s e. (s, e)) (passes_in news)
      (recursion_from_All (HasSeen new) (passes_in news) left.theirs) entries in
      let each : AllByRecursion (HasLeft new) (passes_in news) =
      both_hold IsLow HasEntries (HasLeft new) (λ p l e. record { seen = e.0; low = l.0; entries = e.1; room = l.1 }) (passes_in news) lows recorded in
      let none : Group = Control (fresh_pass yard control_number) in
      let long : length news ≡ crew.workers + 1 = zip_long (GroupWorked crew.rounds crew.block) groups news worked ∙ dealt.count in
      let last_in : crew.workers < length groups = (let count = dealt.count in omega (arith, count)) in
      let turned = control_worked crew.rounds crew.block (fresh_pass yard control_number) (get_or groups crew.workers none) (get_or news crew.workers none) (dealt.control none)
      (AllZip-get_or (GroupWorked crew.rounds crew.block) groups news crew.workers none none worked last_in) in
      record {
        ours = left.yard ∙ ap (λ (r : Root). r.yard) boarded.now ∙ ap (λ (r : Root). r.yard) fresh;
        nobody =
            let out = left.out in
            let was : mid.out ≡ length (passes_in groups) = ap (λ (r : Root). r.out) boarded.now ∙ (let e : old.out ≡ 0 = ap (λ (r : Root). r.out) fresh in omega (arith, e)) in
            let same = zip_long (Grew (4 * crew.rounds)) (passes_in groups) (passes_in news) grew in
            omega (arith, out, was, same);
        drivers = λ g. passes_of (get_or news g none);
        worked = λ g lt. drivers_worked crew.rounds crew.block (fresh_passes yard crew.workers g) (get_or groups g none) (get_or news g none) (dealt.drivers g none lt)
            (AllZip-get_or (GroupWorked crew.rounds crew.block) groups news g none none worked (omega (arith, lt, last_in)));
        done = λ g lt. All-from_recursion (HasLeft new) (passes_of (get_or news g none)) (each_part (HasLeft new) passes_of news each g none (omega (arith, lt, long)));
        control = turned.0;
        turned = turned.2;
        told = (subst (AllByRecursion (HasLeft new)) turned.1 (each_part (HasLeft new) passes_of news each crew.workers none (omega (arith, long)))).0;
      }

-- to the whole history each pass that left is recorded
recorded_by : (root : Root) (state : Plain) → Closes root state → (pass : Pass) → HasLeft root pass → IsRecorded root.seen pass
recorded_by root state closes pass left =
    record { begins = left.seen; entries = closes.passes pass.number left.low ∙ left.entries; room = left.room }

-- a yard that is closed after a crew worked at it
pub worked_to : (yard : SharedYard) (crew : Crew) (root : Root) (state : Plain) → HasWorked yard crew root → Closes root state → IsWorkedTo yard.setup crew state
worked_to yard crew root state has closes = record {
  yard = yard;
  made = refl;
  history = root.seen;
  worked = record {
    legal = subst (λ (y : SharedYard). IsLegalHistory y.setup root.seen) has.ours closes.legal;
    drivers = has.drivers;
    worked = has.worked;
    recorded = λ g lt. All-weaker (HasLeft root) (IsRecorded root.seen) (recorded_by root state closes) (has.drivers g) (has.done g lt);
    control = has.control;
    turned = has.turned;
    told = recorded_by root state closes has.control has.told;
  };
  reached = subst (λ (y : SharedYard). state.yard ≡ state_after y.setup root.seen) has.ours closes.yard;
  lines =
      subst (λ (y : SharedYard). state.lines ≡ y.setup.opening.lines ++ journal_of y.setup.tables y.setup.opening.yard root.seen) has.ours closes.lines;
  keeps = subst (λ (y : SharedYard). Keeps y.setup.tables state.yard state.lines) has.ours closes.keeps;
}
