use Rattle.std.proofs.Common.{◌≡◌, ◌+◌, Vec, Global, sym, ap, subst, ◌∙◌, arith}
use Rattle.std.specs.Vec.{vec_capacity, vec_len}
use Rattle.zone_yard.specs.Passes.{Pass, Root}
use Rattle.shared_run.proofs.Ashore.{Waits, waits_more, waits_on}
use Rattle.shared_run.proofs.Boards.{Deals, deals_more, deals_on}
use Rattle.shared_run.proofs.boarding.board_group.Goals as goal
use Rattle.shared_run.proofs.boarding.board_group.Goals.{then-train-workers+in-Ok, else-train-workers}

pub loop-train-preserved : goal.loop-train-preserved
loop-train-preserved c =
    let old = c.args.root.now in
    let n = c.loop-train.train in
    let inv = c.loop-train.invariant in
    record {
      deals = elim c.if-train-workers.branch [
        | then-train-workers+in-Ok w ↦
            subst (λ (r : Root). Deals old (n + 1) c.args.workers c.args.group c.if-train-workers.drivers.items r) (sym w.root-is)
            (deals_more old c.loop-train.root w.board.new.root c.loop-train.drivers.items c.if-train-workers.drivers.items n c.args.workers c.args.group w.in-Ok.driver inv.deals
            w.if-train-workers.true w.in-Ok.ensures (omega arith) (ap (λ (v : Vec Pass Global). v.items) w.drivers-is ∙ w.push_reserved.ensures.items))
        | else-train-workers w ↦
            subst (λ (r : Root). Deals old (n + 1) c.args.workers c.args.group c.if-train-workers.drivers.items r) (sym w.root-is)
            (subst (λ (v : Vec Pass Global). Deals old (n + 1) c.args.workers c.args.group v.items c.loop-train.root) (sym w.drivers-is)
            (deals_on old c.loop-train.root c.loop-train.drivers.items n c.args.workers c.args.group inv.deals w.if-train-workers.false))
      ];
      waits = elim c.if-train-workers.branch [
        | then-train-workers+in-Ok w ↦
            subst (Waits c.args.workers c.args.group (n + 1)) (sym w.root-is)
            (waits_more c.args.workers c.args.group n c.loop-train.root w.board.new.root w.in-Ok.driver inv.waits w.if-train-workers.true (omega arith) w.in-Ok.ensures)
        | else-train-workers w ↦
            subst (Waits c.args.workers c.args.group (n + 1)) (sym w.root-is) (waits_on c.args.workers c.args.group n c.loop-train.root inv.waits)
      ];
      len = elim c.if-train-workers.branch [
        | then-train-workers+in-Ok w ↦
            let same : vec_len c.if-train-workers.drivers ≡ vec_len w.push_reserved.new.self = ap vec_len w.drivers-is in
            let more = w.push_reserved.ensures.len in
            let few = inv.len in
            omega (arith, same, more, few)
        | else-train-workers w ↦
            let same : vec_len c.if-train-workers.drivers ≡ vec_len c.loop-train.drivers = ap vec_len w.drivers-is in
            let few = inv.len in
            omega (arith, same, few)
      ];
      room = elim c.if-train-workers.branch [
        | then-train-workers+in-Ok w ↦ ap vec_capacity w.drivers-is ∙ w.push_reserved.ensures.capacity ∙ inv.room
        | else-train-workers w ↦ ap vec_capacity w.drivers-is ∙ inv.room
      ];
    }
