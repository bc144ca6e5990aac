-- The words that the crate's proofs share.
pub use Rattle.atomic_table.specs.Seated.{TableId}
pub use Rattle.atomic_table.specs.Table.{Allows, Me, keeps, stepped}
pub use Rattle.move_claim.specs.Cells.{first_unknown, number_in, number_of, put}
pub use Rattle.move_claim.specs.Claims.{Footprint, claim_of, zones_of}
pub use Rattle.move_claim.specs.Deciding.{decided}
pub use Rattle.move_claim.specs.declared.cells.Cell.{Cell}
pub use Rattle.move_claim.specs.declared.cells.Cell.TheVariants.{Point, Position}
pub use Rattle.move_claim.specs.declared.claims.Claim.{Claim}
pub use Rattle.rail_model.specs.Blocks.{block_entries}
pub use Rattle.rail_model.specs.Checks.{below}
pub use Rattle.rail_model.specs.Lines.{journal_of}
pub use Rattle.rail_model.specs.Table.{Table, place, trains}
pub use Rattle.rail_model.specs.Yard.{IsHistory, Offer, Yard, control, offer}
pub use Rattle.rail_model.specs.declared.types.Ask.TheVariants.{Occupied}
pub use Rattle.rail_model.specs.declared.types.BlockAsk.{BlockAsk}
pub use Rattle.rail_model.specs.declared.types.Entry.{Entry}
pub use Rattle.rail_model.specs.declared.types.Line.{Line}
pub use Rattle.rail_model.specs.declared.types.Reply.TheVariants.{Control, Driver}
pub use Rattle.std.proofs.Common.{Bool, List, None, Ok, Option, Some, [], ap, append-nil, append_assoc, arith, cond, eq-eqb, false, get_or, get_or-set_other, get_or-set_same, if◌then◌else◌, inl, inr, length, length-append, lit<, lt-ltb, map, ne_eqb, refl, replicate, set, slice_get, subst, suc, sym, true, true≢false, unwrap_or, zero, ℕ, ⊎_elim, ◌*◌, ◌++◌, ◌+◌, ◌-◌, ◌<◌, ◌==◌, ◌^◌, ◌∙◌, ◌∷◌, ◌≡◌, ◌≢◌, ◌≤◌, ◌⊎◌}
pub use Rattle.std.proofs.lemmas.Option.{slice_get-get_or}
pub use Rattle.std.specs.Prelude.{is_none}
pub use Rattle.table_exchange.proofs.Histories.{stands_history}
pub use Rattle.ticket_lines.specs.Merging.{Row}
pub use Rattle.zone_locks.specs.Zones.{has}
pub use Rattle.zone_machine.proofs.Together.{step_sound}
pub use Rattle.zone_machine.specs.Entries.{known_table, tried}
pub use Rattle.zone_machine.specs.Sound.{Sound}
pub use Rattle.zone_machine.specs.Steps.{is_above, step_of}
pub use Rattle.zone_machine.specs.World.{Actor, World, actor, gone, is_cell, may_read, trains_of, word, word_of}
pub use Rattle.zone_machine.specs.declared.steps.Stage.TheVariants.{Aboard}
pub use Rattle.zone_yard.specs.Aboard.{IsPass}
pub use Rattle.zone_yard.specs.Attempts.{IsToldBlock, RefusesZone}
pub use Rattle.zone_yard.specs.Blocks.{CanAnswer, granted_steps, needs, replies_of, steps_left}
pub use Rattle.zone_yard.specs.Core.{MayEnter}
pub use Rattle.zone_yard.specs.Entering.{Enters}
pub use Rattle.zone_yard.specs.Holding.{AreAllSmall, HoldsZones, span}
pub use Rattle.zone_yard.specs.Kept.{Fits, IsPassNumber, KeepsRule, Rests, Sits}
pub use Rattle.zone_yard.specs.Lines.{AreLeft, AreLines, Lines, moves_from}
pub use Rattle.zone_yard.specs.Passes.{Pass, Root, StartsWith, done_of, entries_from, entries_of, receipts_from, standing, told}
pub use Rattle.zone_yard.specs.Replies.{BlockReplies, Replies}
pub use Rattle.zone_yard.specs.Setup.{IsLegalHistory, Setup, SharedYard, core, most_passes, state_after}
pub use Rattle.zone_yard.specs.Spread.{spread}
pub use Rattle.zone_yard.specs.Views.{Place, Seat, View, gone_view, knower, new_entries, pass_of, pass_view, root_view, seat_of}
pub use Rattle.zone_yard.specs.declared.requests.Attempt.TheVariants.{Busy, Told}
pub use Rattle.zone_yard.specs.declared.requests.Wanted.{Wanted}
