-- What the answers of a yard's calls say, each with its cause.
use Rattle.std.specs.Prelude.{◌≡◌, ◌≢◌, ℕ, suc, ◌-◌, ◌<◌, min, max, List, [], ◌∷◌, ◌++◌, length, replicate, true}
use Rattle.rail_model.specs.declared.types.Ask.{Ask}
use Rattle.rail_model.specs.declared.types.Ask.TheVariants as ask
use Rattle.rail_model.specs.declared.types.BlockAsk.{BlockAsk}
use Rattle.rail_model.specs.declared.types.BlockAsk.TheVariants as told
use Rattle.rail_model.specs.declared.types.Tried.{Tried}
use Rattle.rail_model.specs.declared.types.Tried.TheVariants as tried
use Rattle.rail_model.specs.declared.types.Reply.TheVariants as entry
use Rattle.rail_model.specs.declared.types.Entry.{Entry}
use Rattle.rail_model.specs.Table.{Table, last}
use Rattle.rail_model.specs.Yard.{offer, in_force, IsOpen}
use Rattle.zone_yard.specs.declared.replies.Reply.{Reply}
use Rattle.zone_yard.specs.declared.replies.Reply.TheVariants as one
use Rattle.zone_yard.specs.declared.replies.BlockReply.{BlockReply}
use Rattle.zone_yard.specs.declared.replies.BlockReply.TheVariants as block
use Rattle.zone_yard.specs.declared.replies.Turn.{Turn}
use Rattle.zone_yard.specs.declared.replies.Turn.TheVariants as turn
use Rattle.zone_locks.specs.Zones.{has}
use Rattle.move_claim.specs.Claims.{claim_of, zones_of}
use Rattle.zone_yard.specs.Setup.{state_after, most_passes}
use Rattle.zone_yard.specs.Passes.{Pass, Try, IsFree}
use Rattle.zone_yard.specs.Entering.{Enters, HasRoom, IsSpent, ChangesNothing}

-- how many steps a request for this many asks for under a table: no more than remain, one where none remains, and no more than the pass
-- has entries left
abbrev pub asked_steps : Table → Pass → ℕ → ℕ
asked_steps T pass want = min want (min (max 1 (last T pass.number - pass.position)) (pass.yard.setup.calls - length pass.mine))

-- the same under the table that is in force after a history
abbrev pub steps_after : Pass → List Entry → ℕ → ℕ
steps_after pass H want = asked_steps (in_force pass.yard.setup.tables (state_after pass.yard.setup H)) pass want

-- the zones of the footprint of such a request, under the table of this number
abbrev pub needed_zones : Pass → ℕ → ℕ → List ℕ
needed_zones pass t want =
    let S = pass.yard.setup in
    let T = (offer S.tables t).table in
    zones_of S.layout T (claim_of T pass.number pass.position (asked_steps T pass want))

-- The last try of the call found the zone held by another pass, which is one of those that a yard can have. The request needs the zone under the table that was glanced before.
-- Nothing else was changed.
pub record IsBusy (want zone holder : ℕ) (old new : Pass) : Type 0 where
  pub earlier : List Try
  pub glanced : ℕ
  pub tries : new.tries ≡ old.tries ++ earlier ++ record { zone = zone; found = suc holder; glanced = glanced } ∷ []
  pub another : holder ≢ old.number
  pub pass : holder < most_passes
  pub listed : glanced < length old.yard.setup.tables
  pub needed : has zone (needed_zones old glanced want) ≡ true
  pub rest : new ≡ record old { tries = new.tries }
  pub free : IsFree new

-- A request was answered so in one entry.
abbrev pub IsReplied : Pass → ℕ → Ask → Pass → Type 0
IsReplied old ticket answer new = HasRoom old × Enters ticket (entry.Driver answer ∷ []) old new

-- This many steps were granted at once: all that were asked for.
abbrev pub IsGranted : ℕ → Pass → ℕ → ℕ → Pass → Type 0
IsGranted want old ticket steps new =
    HasRoom old × ((entered : Enters ticket (replicate steps (entry.Driver ask.Yes)) old new) × (steps ≡ steps_after old entered.before want))

-- The steps that were asked for couldn't be granted whole: the one after the first `step` of them has the answer `answer`.
abbrev pub IsNotWhole : ℕ → Pass → ℕ → ℕ → Ask → Pass → Type 0
IsNotWhole want old ticket step answer new =
    HasRoom old × ((entered : Enters ticket (entry.NotWhole step answer ∷ []) old new) × (step < steps_after old entered.before want))

-- What the answer to a request for one step says.
abbrev pub Replies : Pass → Reply → Pass → Type 0
Replies old (one.Granted ticket) new = IsReplied old ticket ask.Yes new
Replies old (one.Occupied ticket by) new = IsReplied old ticket (ask.Occupied by) new
Replies old (one.Full ticket s n) new = IsReplied old ticket (ask.Full s n) new
Replies old (one.Waits ticket c) new = IsReplied old ticket (ask.Waits c) new
Replies old (one.Arrived ticket) new = IsReplied old ticket ask.Arrived new
Replies old (one.Busy zone holder) new = HasRoom old × IsBusy 1 zone holder old new
Replies old one.Spent new = IsSpent old × ChangesNothing old new

-- The request was answered without finding a zone held.
abbrev pub IsUnhindered : Reply → Type 0
IsUnhindered (one.Busy zone holder) = ⊥
IsUnhindered reply = Unit {0}

-- What the answer to a request for a block of steps says.
abbrev pub BlockReplies : ℕ → Pass → BlockReply → Pass → Type 0
BlockReplies want old (block.Granted ticket steps) new = IsGranted want old ticket steps new
BlockReplies want old (block.NotWhole ticket step answer) new = IsNotWhole want old ticket step answer new
BlockReplies want old (block.Occupied ticket by) new = IsReplied old ticket (ask.Occupied by) new
BlockReplies want old (block.Full ticket s n) new = IsReplied old ticket (ask.Full s n) new
BlockReplies want old (block.Waits ticket c) new = IsReplied old ticket (ask.Waits c) new
BlockReplies want old (block.Arrived ticket) new = IsReplied old ticket ask.Arrived new
BlockReplies want old (block.Busy zone holder) new = HasRoom old × IsBusy want zone holder old new
BlockReplies want old block.Spent new = IsSpent old × ChangesNothing old new

-- The block was answered without finding a zone held.
abbrev pub IsBlockServed : BlockReply → Type 0
IsBlockServed (block.Busy zone holder) = ⊥
IsBlockServed reply = Unit {0}

-- A table has no answer yet, by all that the pass has seen.
abbrev pub SeesOpen : Pass → Type 0
SeesOpen pass = IsOpen pass.yard.setup.tables (state_after pass.yard.setup pass.seen)

-- The control was answered so of the next table in one entry.
abbrev pub IsTurned : Pass → ℕ → Tried → Pass → Type 0
IsTurned old ticket answer new = HasRoom old × SeesOpen old × Enters ticket (entry.Control answer ∷ []) old new

-- What the answer to the control says.
abbrev pub Turns : Pass → Turn → Pass → Type 0
Turns old (turn.Exchanged ticket) new = IsTurned old ticket tried.Exchanged new
Turns old (turn.Differs ticket i k) new = IsTurned old ticket (tried.Differs i k) new
Turns old (turn.Over ticket s n) new = IsTurned old ticket (tried.Over s n) new
Turns old (turn.Early ticket m) new = IsTurned old ticket (tried.Early m) new
Turns old turn.NoMore new = HasRoom old × (SeesOpen old → ⊥) × ChangesNothing old new
Turns old turn.Spent new = IsSpent old × ChangesNothing old new

-- the turn of the control that is answered so
abbrev pub turn_to : ℕ → Tried → Turn
turn_to ticket tried.Exchanged = turn.Exchanged ticket
turn_to ticket (tried.Differs i k) = turn.Differs ticket i k
turn_to ticket (tried.Over s n) = turn.Over ticket s n
turn_to ticket (tried.Early m) = turn.Early ticket m
turn_to ticket tried.NoMore = turn.NoMore

-- the reply to a request for one step that is answered so
abbrev pub reply_to : ℕ → Ask → Reply
reply_to ticket ask.Yes = one.Granted ticket
reply_to ticket ask.Arrived = one.Arrived ticket
reply_to ticket (ask.Occupied by) = one.Occupied ticket by
reply_to ticket (ask.Full s n) = one.Full ticket s n
reply_to ticket (ask.Waits c) = one.Waits ticket c

-- the reply to a request for a block of which n steps are answered so
abbrev pub block_reply_to : ℕ → ℕ → BlockAsk → BlockReply
block_reply_to ticket n told.Yes = block.Granted ticket n
block_reply_to ticket n (told.NotWhole step answer) = block.NotWhole ticket step answer
block_reply_to ticket n (told.First ask.Yes) = block.Granted ticket n
block_reply_to ticket n (told.First ask.Arrived) = block.Arrived ticket
block_reply_to ticket n (told.First (ask.Occupied by)) = block.Occupied ticket by
block_reply_to ticket n (told.First (ask.Full s m)) = block.Full ticket s m
block_reply_to ticket n (told.First (ask.Waits c)) = block.Waits ticket c
