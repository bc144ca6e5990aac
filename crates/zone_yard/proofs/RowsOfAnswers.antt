-- Rows of answers to blocks: what they tell, and the replies that come of them.
use Rattle.zone_yard.proofs.Prelude.{◌≡◌, [], ◌∷◌, refl, arith, Occupied, Told, Busy, needs, replies_of, CanAnswer, steps_left}
use Rattle.rail_model.specs.declared.types.Ask.TheVariants.{Yes as Go, Arrived, Waits}
use Rattle.rail_model.specs.declared.types.BlockAsk.TheVariants.{Yes, First, NotWhole}
use Rattle.rail_model.specs.declared.types.Reply.TheVariants as reply
use Rattle.rail_model.specs.declared.types.Tried.TheVariants.{Differs, Over, NoMore}
use Rattle.zone_yard.specs.declared.replies.Reply.TheVariants as one
use Rattle.zone_yard.specs.declared.replies.BlockReply.TheVariants as block
use Rattle.zone_yard.specs.declared.replies.Turn.TheVariants as turn
use Rattle.zone_yard.specs.Asked.{reply_of, block_reply_of, FoundNoZoneHeld}
use Rattle.zone_yard.specs.Replies.{turn_to}
use Rattle.zone_yard.proofs.Samples.{boarded, first_path, two_tables}

-- three steps are granted, each by an entry
granted : replies_of 3 Yes ≡ reply.Driver Go ∷ reply.Driver Go ∷ reply.Driver Go ∷ []
granted = refl

-- what isn't granted is told in one entry
arrived : replies_of 0 (First Arrived) ≡ reply.Driver Arrived ∷ []
arrived = refl

not_whole : replies_of 3 (NotWhole 2 (Occupied 1)) ≡ reply.NotWhole 2 (Occupied 1) ∷ []
not_whole = refl

-- no step can't be granted, and a block isn't stopped before its first step or after its last
none_granted : CanAnswer 0 Yes → ⊥
none_granted h = omega (arith, h)

not_before : CanAnswer 3 (NotWhole 0 (Occupied 1)) → ⊥
not_before h = omega (arith, h.0)

not_after : CanAnswer 3 (NotWhole 3 (Occupied 1)) → ⊥
not_after h = omega (arith, h.1)

not_first : CanAnswer 3 (First Go) → ⊥
not_first h = h refl

-- four steps are asked for on the first path, where two remain; at its end none does
two_left : steps_left (boarded (first_path 9) 0) [] 4 ≡ 2
two_left = refl

none_left : steps_left (record (boarded (first_path 9) 0) { position = 2 }) [] 4 ≡ 0
none_left = refl

-- under its second table the train goes to C, in zone 2
needs_two : (needs two_tables.setup (record { train = 0; place = 0; table = 1; steps = 4 }) 0).zones ≡ 0 ∷ 2 ∷ []
needs_two = refl

-- the replies
one_step : reply_of (Told Yes 1 7) ≡ one.Granted 7
one_step = refl

held : reply_of (Busy 2 5) ≡ one.Busy 2 5
held = refl

block_granted : block_reply_of (Told Yes 3 7) ≡ block.Granted 7 3
block_granted = refl

block_stopped : block_reply_of (Told (NotWhole 2 (Waits 0)) 3 7) ≡ block.NotWhole 7 2 (Waits 0)
block_stopped = refl

block_waits : block_reply_of (Told (First (Waits 0)) 3 7) ≡ block.Waits 7 0
block_waits = refl

not_answered : FoundNoZoneHeld (Busy 2 5) → ⊥
not_answered h = h

-- the answers to the control
differs : turn_to 7 (Differs 0 2) ≡ turn.Differs 7 0 2
differs = refl

over : turn_to 7 (Over 0 2) ≡ turn.Over 7 0 2
over = refl

no_more : turn_to 7 NoMore ≡ turn.NoMore
no_more = refl
