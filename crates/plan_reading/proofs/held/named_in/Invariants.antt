use Rattle.std.proofs.Common.{◌≡◌}
use Rattle.toml.specs.View.{members_view, table_view}
use Rattle.plan_reading.specs.Held.{named_in}
use Rattle.plan_reading.proofs.held.named_in.Given as goal

abbrev pub invariant-loop-name : goal.invariant-loop-name
invariant-loop-name l = named_in (members_view l.name-iterator) l.route l.place ≡ named_in (table_view l.keys) l.route l.place
