-- No train is further than place 127.
use Rattle.zone_yard.proofs.Prelude.{◌≡◌, ◌≢◌, ℕ, ◌+◌, ◌<◌, ◌≤◌, ◌^◌, List, sym, ap, ◌∙◌, subst, arith, ne_eqb, TableId, BlockAsk, Entry, trains, Yard, offer, control, stands_history, Seat, Setup, core, state_after, IsLegalHistory, standing, granted_steps, IsToldBlock}
use Rattle.zone_machine.specs.Sound.{IsSetup as IsCoreSetup}

pub low_place : (S : Setup) (H : List Entry) (p : ℕ) → IsCoreSetup (core S) → IsLegalHistory S H → p < trains (offer S.tables 0).table
    → standing (state_after S H) p ≤ 127
low_place S H p made legal train =
    let y : Yard = state_after S H in
    let stands = stands_history S.tables S.opening.yard H made.tables made.opening legal in
    let formed = made.formed y.table stands.in_range in
    let few = (made.formed 0 made.tables.some).few_trains in
    let same = made.tables.same y.table stands.in_range in
    let there : p < trains (offer S.tables y.table).table = omega (arith, train, same) in
    let driver : p ≢ control = λ e. absurd (omega (arith, e, train, few)) in
    let reached = stands.legal.in_range p there in
    let short = (formed.missions p there).few_places in
    rw (ne_eqb p control driver) (omega (arith, reached, short))

-- a driver that was told this is no further than that
pub low_told : (S : Setup) (id : TableId) (asked steps ticket p position : ℕ) (answer : BlockAsk) (old new : Seat) → IsCoreSetup (core S) → old.view.setup ≡ S → old.view.number ≡ p
    → p < trains (offer old.view.setup.tables 0).table → old.view.actor.position ≡ position → IsToldBlock id asked answer steps ticket old new → position + granted_steps steps answer < 2 ^ 32
low_told S id asked steps ticket p position answer old new made same number train at h =
    let low = low_place old.view.setup new.view.seen p (subst (λ (T : Setup). IsCoreSetup (core T)) (sym same) made) h.0.entered.legal train in
    let is : position + granted_steps steps answer ≡ standing (state_after old.view.setup new.view.seen) p =
    ap (λ a. a + granted_steps steps answer) (sym at) ∙ (sym h.1.idle.stands ∙ (h.0.entered.stands ∙ ap (standing (state_after old.view.setup new.view.seen)) (h.0.entered.number ∙ number))) in
    omega (arith, low, is)
