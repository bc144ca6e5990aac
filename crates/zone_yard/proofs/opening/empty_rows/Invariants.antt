use Rattle.zone_yard.proofs.Prelude.{◌≡◌, ◌<◌, ℕ, [], length, Row}
use Rattle.std.specs.Prelude.{slice_index_or}
use Rattle.zone_yard.proofs.opening.empty_rows.Given as goal

abbrev pub invariant-loop-pass : goal.invariant-loop-pass
invariant-loop-pass l = record {
  long : length l.rows.items ≡ l._pass;
  empty : (p : ℕ) (d : Row) → p < l._pass → (slice_index_or l.rows.items p d).items ≡ [];
}
