use Rattle.std.proofs.Common.{◌≡◌, ◌<◌, ℕ, length, inr, refl, arith}
use Rattle.wait_causes.specs.Before.{table_before}
use Rattle.wait_causes.proofs.TooFar.{too_far}
use Rattle.wait_causes.proofs.causes.cause_at.Goals as goal

pub returns-in-None : goal.returns-in-None
returns-in-None c =
    let D = c.args.doc.now in
    let run = c.args.run.now in
    let t : ℕ = table_before run.takeovers.items c.args.tick in
    let in_force : c.table_before-table.result ≡ t = cc (c.table_before-table.ensures, c.deref.ensures.value) in
    let within : t < length D.tables = omega (arith, c.if-tables_of-table.false, c.tables_of.ensures.count, in_force) in
    let far = rw c.in-None.is at c.in_ok-state.ensures in
    inr ((λ told. too_far D run c.args.tick t far.0 c.tables_of.ensures.formed within far.1 far.2 told.1), refl)
