use Rattle.std.proofs.Common.{length, List, arith, subst, sym, slice_index_or}
use Rattle.rail_model.specs.Table.{AreMissions, IsTable}
use Rattle.forbidden_states.specs.Forbid.{Stay}
use Rattle.forbidden_states.proofs.Tables.{stays-le, is_table}
use Rattle.forbidden_states.proofs.marking.marked.Goals as goal

pub sections-requires : goal.sections-requires
sections-requires c = λ k d l.
    let formed : AreMissions c.args.missions = subst AreMissions c.missions.view_is c.missions.invariant in
    let few = formed.few in
    let stays : List Stay = slice_index_or c.args.all.now k d in
    let least = stays-le (length c.args.missions) stays (c.requires.stays k d l) in
    omega arith

pub new-requires-2 : goal.new-requires-2
new-requires-2 c =
    let formed : AreMissions c.args.missions = subst AreMissions c.missions.view_is c.missions.invariant in
    subst IsTable (λ i. record { missions = c.args.missions; sections = sym c.in_ok-sections.ensures i; connections = sym c.new.ensures.items i })
    (is_table c.args.missions c.args.all.now formed c.requires.few c.requires.stays)
