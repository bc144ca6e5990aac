use Rattle.std.proofs.Common.{ap, sym, ◌∙◌}
use Rattle.toml.specs.View.{members_view, table_view}
use Rattle.plan_patterns.specs.Parts.{and_others}
use Rattle.plan_patterns.proofs.parts.put_others.Goals as goal

pub loop-key-preserved : goal.loop-key-preserved
loop-key-preserved c =
    let l = c.loop-key in
    ap (λ own. and_others own (members_view c.next.new.self)) c.in_ok-put_new.ensures
    ∙ sym (ap (λ es. and_others (table_view l.table) (members_view es)) c.in-Some.ensures.steps)
    ∙ l.invariant
