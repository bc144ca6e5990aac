use Rattle.std.proofs.Common.{ap, ◌∙◌}
use Rattle.std.specs.Prelude.{option_map}
use Rattle.toml.specs.View.{members_view, view}
use Rattle.toml.proofs.Views.{view-lookup}
use Rattle.plan_patterns.proofs.Members.{without_view}
use Rattle.plan_patterns.proofs.parts.take.Goals as goal

pub returns-clause-value : goal.returns-clause-value
returns-clause-value c = ap (option_map view) c.remove.ensures.value ∙ view-lookup c.args.key.now c.args.table.now.entries

pub returns-clause-rest : goal.returns-clause-rest
returns-clause-rest c = ap members_view c.remove.ensures.entries ∙ without_view c.args.key.now c.args.table.now.entries
