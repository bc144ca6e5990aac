use Rattle.zone_machine.proofs.Prelude.{◌≡◌, drop, Sound}
use Rattle.zone_machine.specs.Weave.{weave_of, weave_from}
use Rattle.zone_machine.proofs.machine.Core.weave.Given as goal

abbrev pub invariant-loop-place : goal.invariant-loop-place
invariant-loop-place g l = record {
  sound : Sound l.self.setup l.self.world;
  setup : l.self.setup ≡ l.initial.self.setup;
  weaves : weave_of l.initial.self.setup l.steps l.initial.self.world ≡ weave_from l.initial.self.setup l.place (drop l.place l.steps) l.self.world;
}
