use Rattle.std.proofs.Common.{ap, sym, ◌∙◌}
use Rattle.toml.specs.View.{members_view, view}
use Rattle.plan_patterns.proofs.Members.{missing, replace_missing, replace_view}
use Rattle.plan_patterns.proofs.parts.replace.Goals as goal

pub returns-in-Some : goal.returns-in-Some
returns-in-Some c =
    ap members_view (c.get_mut.follows.holds c.args.value).0 ∙ replace_view c.args.key.now c.args.table.now.entries c.args.value

pub returns-in-None : goal.returns-in-None
returns-in-None c =
    let none = missing c.args.key.now c.args.table.now c.get_mut.result c.in-None.is c.get_mut.ensures.value in
    rw c.get_mut.follows.holds-at-none (sym (replace_missing c.args.key.now (view c.args.value) _ none))
