use Rattle.std.proofs.Common.{◌<◌, ◌+◌, ℕ, get_or, sym, subst, ◌∙◌, arith, rules}
use Rattle.shared_run.specs.declared.groups.Group.{Group}
use Rattle.shared_run.specs.declared.groups.Group.TheVariants.{Drivers}
use Rattle.shared_run.specs.Boarding.{HaveBoarded, HasDrivers, passes_in}
use Rattle.shared_run.specs.Shared.{fresh_passes}
use Rattle.shared_run.proofs.Grouped.{group_boards, group_ours, drivers_fresh, groups_have}
use Rattle.shared_run.proofs.boarding.board_all.Goals as goal

pub returns-in_err-boarded-clause-boarded : goal.returns-in_err-boarded-clause-boarded
returns-in_err-boarded-clause-boarded c =
    let old = c.args.root.now in
    let new = c.board_group-boarded.new.root in
    let last = Drivers c.board_group-boarded.new.drivers in
    subst (λ gs. HaveBoarded old (passes_in gs) new) (sym c.push_reserved.ensures.items)
    (group_boards old c.loop-group.root new c.loop-group.groups.items last c.loop-group.invariant.boarded c.board_group-boarded.ensures.boarded)

pub returns-in_err-boarded-clause-ours : goal.returns-in_err-boarded-clause-ours
returns-in_err-boarded-clause-ours c =
    group_ours c.args.yard.now c.args.root.now c.loop-group.root c.board_group-boarded.new.root c.loop-group.groups.items c.push_reserved.new.self.items
    c.board_group-boarded.new.drivers c.requires.fresh c.loop-group.invariant.boarded c.board_group-boarded.ensures.boarded c.loop-group.invariant.ours c.push_reserved.ensures.items

pub loop-group-preserved : goal.loop-group-preserved
loop-group-preserved c =
    let yard = c.args.yard.now in
    let old = c.args.root.now in
    let mid = c.loop-group.root in
    let new = c.board_group-boarded.new.root in
    let groups = c.loop-group.groups.items in
    let last = Drivers c.board_group-boarded.new.drivers in
    let inv = c.loop-group.invariant in
    record {
      boarded = subst (λ gs. HaveBoarded old (passes_in gs) new) (sym c.push_reserved.ensures.items)
          (group_boards old mid new groups last inv.boarded c.board_group-boarded.ensures.boarded);
      ours = group_ours yard old mid new groups c.push_reserved.new.self.items c.board_group-boarded.new.drivers c.requires.fresh inv.boarded
          c.board_group-boarded.ensures.boarded inv.ours c.push_reserved.ensures.items;
      drivers = subst (λ gs. (k : ℕ) (d : Group) → k < c.loop-group.group + 1 → HasDrivers (fresh_passes yard c.args.workers k) (get_or gs k d))
          (sym c.push_reserved.ensures.items)
          (groups_have (fresh_passes yard c.args.workers) groups last c.loop-group.group (search rules) inv.drivers
          (drivers_fresh yard old mid (passes_in groups) c.board_group-boarded.new.drivers.items c.args.trains c.args.workers c.loop-group.group c.requires.fresh inv.boarded
          c.requires.trains c.in_ok-boarded.ensures.dealt));
      ashore = c.in_ok-boarded.ensures.ashore;
      len = let more = c.push_reserved.ensures.len in let so_far = inv.len in omega (arith, more, so_far);
      room = c.push_reserved.ensures.capacity ∙ inv.room;
    }
