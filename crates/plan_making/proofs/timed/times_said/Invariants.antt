use Rattle.std.proofs.Common.{◌≡◌, map, option_map}
use Rattle.toml.specs.View.{view}
use Rattle.plan_making.specs.Timed.{step_time}
use Rattle.plan_making.proofs.timed.times_said.Given as goal

abbrev pub invariant-loop-from : goal.invariant-loop-from
invariant-loop-from l = l.times.items ≡ map (λ s. step_time (option_map (λ v. view v.now) l.said) (option_map (λ v. view v.now) l.dwell) s.0.now s.1.now) l.yielded
