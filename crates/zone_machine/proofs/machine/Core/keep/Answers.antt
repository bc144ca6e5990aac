use Rattle.zone_machine.proofs.Prelude.{◌≡◌, ◌<◌, length, Some, refl, sym, ap, ◌∙◌, subst, slice_get, Actor, CoreValue}
use Rattle.std.proofs.lemmas.Option.{slice_get_read}
use Rattle.zone_machine.proofs.Needing.{glance_in}
use Rattle.zone_machine.proofs.machine.Core.keep.Goals as goal

pub keep_at-requires-clause-table : goal.keep_at-requires-clause-table
keep_at-requires-clause-table g c =
    let low = subst (λ (v : CoreValue). c.args.number < length v.world.actors) (sym c.self.view_is) c.requires in
    let at = slice_get_read _ _ c.args.number c.index-row.result.now refl low c.index-row.ensures in
    let there = subst (λ (v : CoreValue). slice_get v.world.actors c.args.number ≡ Some c.index-row.result.now) c.self.view_is at in
    glance_in _ c.args.self.now c.self.invariant.0 c.self.view_is c.args.number c.index-row.result.now there c.in-Some.table (sym (ap (λ (x : Actor). x.glance) c.row.view_is) ∙ c.in-Some.is)
