-- What came of a driver's asking for a block of steps.
use Rattle.std.specs.Prelude.{ℕ}
use Rattle.zone_yard.specs.declared.requests.Attempt.{Attempt}
use Rattle.zone_yard.specs.declared.requests.Attempt.TheVariants.{Told, Busy}
use Rattle.move_claim.specs.Deciding.{one_ask}
use Rattle.zone_yard.specs.declared.replies.Reply.{Reply}
use Rattle.zone_yard.specs.declared.replies.Reply.TheVariants as one
use Rattle.zone_yard.specs.declared.replies.BlockReply.{BlockReply}
use Rattle.zone_yard.specs.declared.replies.BlockReply.TheVariants as block
use Rattle.zone_yard.specs.Passes.{Pass}
use Rattle.zone_yard.specs.Blocks.{IsAnswered}
use Rattle.zone_yard.specs.Replies.{IsBusy, reply_to, block_reply_to}

-- It was answered, or a zone that it needs was held.
abbrev pub Attempted : ℕ → Pass → Attempt → Pass → Type 0
Attempted n old (Told answer steps ticket) new = IsAnswered n answer steps ticket old new
Attempted n old (Busy zone holder) new = IsBusy n zone holder old new

-- No zone was held.
abbrev pub FoundNoZoneHeld : Attempt → Type 0
FoundNoZoneHeld (Busy zone holder) = ⊥
FoundNoZoneHeld (Told answer steps ticket) = Unit {0}

-- what a request for one step is answered by it
abbrev pub reply_of : Attempt → Reply
reply_of (Told answer steps ticket) = reply_to ticket (one_ask answer)
reply_of (Busy zone holder) = one.Busy zone holder

-- what a request for a block is answered by it
abbrev pub block_reply_of : Attempt → BlockReply
block_reply_of (Told answer steps ticket) = block_reply_to ticket steps answer
block_reply_of (Busy zone holder) = block.Busy zone holder
