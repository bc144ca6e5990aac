use Rattle.std.proofs.Common.{subst, sym}
use Rattle.std.specs.Prelude.{IsTrue, ◌↔◌}
use Rattle.state_core.specs.Core.{IsCore}
use Rattle.state_core.proofs.Tests.{core_is_tested}
use Rattle.state_core.proofs.cores.is_core.Goals as goal

pub returns : goal.returns
returns c =
    let T = c.args.table.now in
    let p = c.args.state.now in
    let group = c.args.group.now in
    subst (λ b. IsTrue b ↔ IsCore T p group) (sym c.passes.ensures) (core_is_tested T p group)

pub passes-requires : goal.passes-requires
passes-requires c = record { one_each = c.requires.one_each; in_range = c.requires.in_range }
