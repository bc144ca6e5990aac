use Rattle.std.proofs.Common.{◌≡◌, ◌<◌, ℕ}
use Rattle.std.specs.Prelude.{slice_index_or}
use Rattle.std.specs.List.{All}
use Rattle.std.specs.Vec.{vec_capacity, vec_len}
use Rattle.shared_run.specs.declared.groups.Group.{Group}
use Rattle.shared_run.specs.Groups.{IsOurGroup}
use Rattle.shared_run.specs.Boarding.{HaveBoarded, AreAshore, HasDrivers, passes_in}
use Rattle.shared_run.specs.Shared.{fresh_passes}
use Rattle.shared_run.proofs.boarding.board_all.Given as goal

abbrev pub invariant-loop-group : goal.invariant-loop-group
invariant-loop-group l = record {
  boarded : HaveBoarded l.initial.root (passes_in l.groups.items) l.root;
  ours : All (IsOurGroup l.yard) l.groups.items;
  drivers : (k : ℕ) (d : Group) → k < l.group → HasDrivers (fresh_passes l.yard l.workers k) (slice_index_or l.groups.items k d);
  ashore : AreAshore l.workers l.group l.root;
  len : vec_len l.groups ≡ l.group;
  room : vec_capacity l.groups ≡ vec_capacity l.initial.groups;
}
