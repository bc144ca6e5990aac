use Rattle.zone_machine.proofs.Prelude.{◌≡◌, ◌++◌, replicate, Yes, Driver}
use Rattle.std.specs.Prelude.{vec_capacity}
use Rattle.zone_machine.proofs.appending.push_grants.Given as goal

abbrev pub invariant-loop-step : goal.invariant-loop-step
invariant-loop-step l = record {
  entries : l.history.items ≡ l.initial.history.items ++ replicate l._step (record { who = l.who; reply = Driver Yes });
  room : vec_capacity l.history ≡ vec_capacity l.initial.history;
}
