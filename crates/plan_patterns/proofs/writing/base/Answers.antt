use Rattle.std.proofs.Common.{◌+◌, ◌-◌, ap, arith, length, map, sym, ◌∙◌}
use Rattle.toml.specs.View.{table_view, view}
use Rattle.plan_patterns.specs.Expanded.{based}
use Rattle.plan_patterns.proofs.Bases.{based_more}
use Rattle.plan_patterns.proofs.writing.base.Goals as goal

pub loop-step-preserved : goal.loop-step-preserved
loop-step-preserved c =
    let l = c.loop-step in
    let patterns = c.args.patterns.now in
    let found = rw c.in-Some.is at c.base_of.ensures in
    ap (based (length patterns - (l.step + 1)) (map view patterns)) c.in_ok-rest_on-in-Some.ensures
    ∙ sym (based_more (length patterns) l.step (map view patterns) (table_view l.entry) (table_view c.in-Some.base.now) (omega arith) found)
    ∙ l.invariant
