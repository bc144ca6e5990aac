use Rattle.zone_machine.proofs.Prelude.{◌≡◌, ◌∙◌, true, false, sym, ap, refl}
use Rattle.rail_model.specs.Table.{Table}
use Rattle.rail_model.specs.Checks.{is_due, admitted}
use Rattle.rail_model.proofs.Told.{admitted-agrees}
use Rattle.table_exchange.specs.Admitted.{told}
use Rattle.rail_model.proofs.Counts.{count_low}
use Rattle.zone_machine.proofs.ControlEnters.{same_due}
use Rattle.zone_machine.proofs.control.tell.Goals as goal

pub returns-then-due : goal.returns-then-due
returns-then-due g c =
    let T = c.args.table.now in
    let p = c.args.positions.now in
    let new = c.table.result.now in
    let agreed = (admitted-agrees T new p (told c.admit.result) (λ s. count_low new s p c.table.ensures.formed)).0 c.admit.ensures in
    let same = same_due T p c.args.moves c.after.result c.due.result c.all_arrived.result c.due.ensures c.all_arrived.ensures in
    let due : is_due T p c.args.moves (g.A.HasTable.offer c.args.next.now).after ≡ true = ap (λ n. is_due T p c.args.moves n) (sym c.after.ensures) ∙ (sym same ∙ c.if-due.true) in
    c.told.ensures ∙ (agreed ∙ (ap (λ (t : Table). admitted T t p) c.table.ensures.given ∙ sym (rw due refl)))

pub returns-else-due : goal.returns-else-due
returns-else-due g c =
    let T = c.args.table.now in
    let p = c.args.positions.now in
    let same = same_due T p c.args.moves c.after.result c.due.result c.all_arrived.result c.due.ensures c.all_arrived.ensures in
    let due : is_due T p c.args.moves (g.A.HasTable.offer c.args.next.now).after ≡ false = ap (λ n. is_due T p c.args.moves n) (sym c.after.ensures) ∙ (sym same ∙ c.if-due.false) in
    sym (rw due refl)
