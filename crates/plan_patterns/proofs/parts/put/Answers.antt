use Rattle.std.proofs.Common.{ap, ◌∙◌}
use Rattle.toml.specs.View.{members_view}
use Rattle.plan_patterns.proofs.Members.{put_view}
use Rattle.plan_patterns.proofs.parts.put.Goals as goal

pub returns : goal.returns
returns c = ap members_view c.in_ok-insert.ensures.entries ∙ put_view c.args.table.now.entries c.args.key c.args.value
