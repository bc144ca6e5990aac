use Rattle.zone_yard.proofs.Prelude.{◌≡◌, ◌<◌, ℕ, length, place, state_after}
use Rattle.std.specs.Prelude.{slice_index}
use Rattle.zone_yard.proofs.closing.read_back.Given as goal

abbrev pub invariant-loop-train : goal.invariant-loop-train
invariant-loop-train l = record {
  size : length l.positions ≡ length l.initial.positions;
  read : (i : ℕ) → i < l.train → slice_index l.positions i ≡ place (state_after l.fn.root.yard.setup l.fn.root.seen).positions i;
}
