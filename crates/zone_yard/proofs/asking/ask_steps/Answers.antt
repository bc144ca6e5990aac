use Rattle.zone_yard.proofs.Prelude.{◌≡◌, ◌+◌, ◌≤◌, ℕ, length, sym, ap, ◌∙◌, subst, arith, SharedYard, Pass, pass_of, Seat}
use Rattle.zone_yard.specs.Asked.{Attempted}
use Rattle.zone_yard.specs.Aboard.{IsDriver}
use Rattle.zone_yard.proofs.BlockEntries.{entries_long}
use Rattle.zone_yard.proofs.Drivers.{driver_told, asks_asked}
use Rattle.zone_yard.proofs.LowPlaces.{low_told}
use Rattle.zone_yard.proofs.asking.ask_steps.Given.{Over}
use Rattle.zone_yard.proofs.asking.ask_steps.Goals.{After-ask_on-attempt}
use Rattle.zone_yard.proofs.asking.ask_steps.Goals as goal

-- there is room for the entries
room : (g : Over) (c : After-ask_on-attempt g) → length c.driver.inside.asker.seat.me.view.mine + c.args.steps ≤ c.driver.inside.asker.seat.me.view.setup.calls
room g c = omega (arith, c.requires.room, ap (λ (p : Pass). length p.mine) c.driver.view_is, ap (λ (p : Pass). p.yard.setup.calls) c.driver.view_is, ap (λ (y : SharedYard). y.setup.calls) c.requires.ours)

pub overflow_add-driver : goal.overflow_add-driver
overflow_add-driver g c =
    let old : Seat = c.driver.inside.asker.seat.me in
    let made : old.view.setup ≡ c.args.yard.now.setup = ap (λ (p : Pass). p.yard.setup) c.driver.view_is ∙ ap (λ (y : SharedYard). y.setup) c.requires.ours in
    let low = low_told c.args.yard.now.setup c.driver.inside.asker.seat.table_id c.args.steps c.in-Told.steps c.in-Told.ticket c.driver.inside.train c.driver.inside.position c.in-Told.answer old
    c.ask_on-attempt.new.asker.seat.me c.ask_on-attempt.ensures.formed made c.driver.invariant.0.pass.number_is c.driver.invariant.0.named c.driver.invariant.0.pass.idle.stands c.in-Told.ensures.asks in
    let more = c.count_granted.ensures in
    omega (arith, low, more)

pub overflow_add-driver-in-Told : goal.overflow_add-driver-in-Told
overflow_add-driver-in-Told g c =
    let told = driver_told c.driver.inside.asker.seat.table_id c.driver.inside.train c.driver.inside.position c.driver.inside.entries c.driver.inside.asker.seat.me c.ask_on-attempt.new.asker.seat.me c.driver.invariant.0
    c.args.steps c.in-Told.steps c.in-Told.ticket c.in-Told.answer c.requires.steps.0 (room g (goal.at.overflow_add-driver-in-Told g c).After-ask_on-attempt) c.in-Told.ensures.asks in
    let few = told.pass.room in
    let calls = told.pass.few_calls in
    let more = c.entries_of.ensures c.driver.inside.train ∙ entries_long c.driver.inside.train c.in-Told.steps c.in-Told.answer in
    omega (arith, few, calls, more)

pub invariant_of-driver : goal.invariant_of-driver
invariant_of-driver g c =
    let told = driver_told c.driver.inside.asker.seat.table_id c.driver.inside.train c.driver.inside.position c.driver.inside.entries c.driver.inside.asker.seat.me c.ask_on-attempt.new.asker.seat.me c.driver.invariant.0
    c.args.steps c.in-Told.steps c.in-Told.ticket c.in-Told.answer c.requires.steps.0 (room g (goal.at.invariant_of-driver g c).After-ask_on-attempt) c.in-Told.ensures.asks in
    let driver = subst (λ (x : ℕ × ℕ). IsDriver c.driver.inside.train (c.driver.inside.position + x.0) (c.driver.inside.entries + x.1) c.ask_on-attempt.new.asker.seat.me)
    (λ i. (sym c.count_granted.ensures i, sym (c.entries_of.ensures c.driver.inside.train ∙ entries_long c.driver.inside.train c.in-Told.steps c.in-Told.answer) i)) told in
    (driver, c.in-Told.ensures.lines)

pub returns-in_default-clause-asked : goal.returns-in_default-clause-asked
returns-in_default-clause-asked g c =
    subst (λ (x : Pass × Pass). Attempted c.args.steps x.0 c.ask_on-attempt.result x.1)
    (λ i. (c.driver.view_is i, pass_of (sym c.ask_on-attempt.ensures.same.0 i) c.ask_on-attempt.new.asker.seat.me.view))
    (asks_asked c.driver.inside.asker.seat.table_id c.driver.inside.train c.driver.inside.position c.driver.inside.entries c.driver.inside.asker.seat.me c.ask_on-attempt.new.asker.seat.me c.driver.invariant.0
    c.args.steps c.ask_on-attempt.result c.requires.steps.0 (room g (goal.at.returns-in_default-clause-asked g c).After-ask_on-attempt) c.ask_on-attempt.ensures.asks)
