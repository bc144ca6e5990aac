-- The words that the crate's proofs share.
pub use Rattle.move_claim.specs.Cells.{AreDistinct, number_in, number_of, without_cell}
pub use Rattle.move_claim.specs.Claims.{Footprint, cells_of, claim_of, footprint_of, zones_of}
pub use Rattle.move_claim.specs.States.{cell_number, occupant}
pub use Rattle.move_claim.specs.declared.cells.Cell.{Cell}
pub use Rattle.move_claim.specs.declared.cells.Cell.TheVariants.{Count, Point, Position}
pub use Rattle.rail_model.proofs.Firsts.{passing, then_some-none}
pub use Rattle.rail_model.proofs.Found.{find-none}
pub use Rattle.rail_model.specs.Blocks.{block_entries}
pub use Rattle.rail_model.specs.Checks.{below, same_point}
pub use Rattle.rail_model.specs.State.{Legal}
pub use Rattle.rail_model.specs.Table.{IsTable, count, last, place, point, trains}
pub use Rattle.rail_model.specs.Turns.{first_of}
pub use Rattle.rail_model.specs.Ways.{IsOn}
pub use Rattle.rail_model.specs.Yard.{IsHistory, Offer, Yard, after, after_entry, control, offer}
pub use Rattle.rail_model.specs.declared.types.Ask.TheVariants.{Yes}
pub use Rattle.rail_model.specs.declared.types.Entry.{Entry}
pub use Rattle.rail_model.specs.declared.types.Reply.TheVariants.{Control, Driver}
pub use Rattle.rail_model.specs.declared.types.Tried.{Tried}
pub use Rattle.rail_model.specs.declared.types.Tried.TheVariants.{Early, Exchanged}
pub use Rattle.std.proofs.Common.{Bool, Err, List, None, Ok, Option, Some, [], ap, append_assoc, arith, cond, drop, eq-eqb, false, find, get_or, inl, inr, length, length-append, lt-ltb, ltb-false, ltb-true, map, nat_le, nat_lt, ne_eqb, not, option_map, pos, refl, replicate, rules, slice_get, slice_index, subst, suc, sym, true, true≢false, unwrap_or, zero, ℕ, ⊎_elim, ◌&&◌, ◌++◌, ◌+◌, ◌-◌, ◌<◌, ◌==◌, ◌||◌, ◌∙◌, ◌∷◌, ◌≡◌, ◌≢◌, ◌≤ℤ◌, ◌≤◌, ◌⊎◌}
pub use Rattle.std.proofs.lemmas.Bool.{and_parts, both_ways, cases_Bool, cases_eq, cases_lt, cond_both, eqb-true, false_from_ne_true, or_parts}
pub use Rattle.std.proofs.lemmas.List.{get_or_past, length-map}
pub use Rattle.std.proofs.lemmas.Option.{cond_some, get_or_from_slice_get}
pub use Rattle.std.specs.Bool.{then_some}
pub use Rattle.std.specs.List.Sorted.{IsStrictlyIncreasing}
pub use Rattle.std.specs.Option.{option_or}
pub use Rattle.std.specs.Prelude.{is_none, is_some, nat_abs}
pub use Rattle.zone_locks.specs.Zones.{has, without}
pub use Rattle.zone_machine.specs.Cores.{CoreValue, IsCore}
pub use Rattle.zone_machine.specs.Entries.{answer, driver_after, known_table, own_claim, tried}
pub use Rattle.zone_machine.specs.Needs.{has_more, table_of, zones}
pub use Rattle.zone_machine.specs.Program.{next_of}
pub use Rattle.zone_machine.specs.Sound.{Is, IsActor, IsSetup, IsUnheard, Sound}
pub use Rattle.zone_machine.specs.Steps.{after_control, after_driver, append_checks, checks, first_zone, is_aboard, is_above, is_in_place, missing_zone, outcome, refusal, releasing, room_for, step_of, still_known, unknown_cell}
pub use Rattle.zone_machine.specs.Weave.{first_world}
pub use Rattle.zone_machine.specs.World.{Actor, Setup, World, actor, gone, is_bare, is_cell, may_read, may_write, number, points_of, trains_of, word, word_of, yard_after}
pub use Rattle.zone_machine.specs.declared.steps.NotAllowed.{NotAllowed}
pub use Rattle.zone_machine.specs.declared.steps.Seen.{Seen}
pub use Rattle.zone_machine.specs.declared.steps.Stage.{Stage}
pub use Rattle.zone_machine.specs.declared.steps.Stage.TheVariants.{Aboard, Away, Left}
pub use Rattle.zone_machine.specs.declared.steps.Step.{Step}
pub use Rattle.zone_machine.specs.declared.steps.Step.TheVariants.{Append, Block, Board, Glance, Leave, Pay, Read, Release, Take}
