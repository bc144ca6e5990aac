-- Rows of blocks: T0 on a way of four points, and T1 that stands at the last of them or has left it.
use Rattle.std.proofs.Common.{◌≡◌, [], ◌∷◌, refl, lit<, lit≤, inr}
use Rattle.rail_model.specs.declared.types.Ask.TheVariants.{Yes as Granted, Arrived, Occupied}
use Rattle.rail_model.specs.declared.types.BlockAsk.TheVariants.{Yes, First, NotWhole}
use Rattle.rail_model.specs.declared.types.Reply.TheVariants as reply
use Rattle.rail_model.specs.Table.{Table}
use Rattle.rail_model.specs.Blocks.{IsBlock, steps_of, AnswersBlock, block_entries}
use Rattle.rail_model.proofs.MoveTests.{run}
use Rattle.rail_model.proofs.Samples.{two_trains}

-- A B C D, against D E
abbrev one_way : Table
one_way = two_trains (0 ∷ 1 ∷ 2 ∷ 3 ∷ []) (3 ∷ 4 ∷ [])

-- T1 is at E, and T0 makes a block of three steps
made : AnswersBlock one_way (0 ∷ 1 ∷ []) 0 3 Yes
made = (lit< tt, run one_way (0 ∷ 1 ∷ []) (0 ∷ 0 ∷ 0 ∷ []) refl)

three_grants : block_entries 0 3 Yes
    ≡ record { who = 0; reply = reply.Driver Granted } ∷ record { who = 0; reply = reply.Driver Granted } ∷ record { who = 0; reply = reply.Driver Granted } ∷ []
three_grants = refl

-- T1 is at D, where T0 would come by its third step: two could be made
stopped : AnswersBlock one_way (0 ∷ 0 ∷ []) 0 3 (NotWhole 2 (Occupied 1))
stopped = (lit< tt, (lit< tt, lit< tt, lit< tt, run one_way (0 ∷ 0 ∷ []) (0 ∷ 0 ∷ []) refl, (lit< tt, (lit< tt, (λ e. cc), (3, refl, refl))), (λ e. cc)))

-- T0 is at C, and T1 at D: not even the first step is granted
refused : AnswersBlock one_way (2 ∷ 0 ∷ []) 0 1 (First (Occupied 1))
refused = ((lit< tt, (lit< tt, (λ e. cc), (3, refl, refl))), (λ e. cc))

one_entry : block_entries 0 3 (NotWhole 2 (Occupied 1)) ≡ record { who = 0; reply = reply.NotWhole 2 (Occupied 1) } ∷ []
one_entry = refl

-- three steps remain of the four that T0 wants
cut : steps_of one_way (0 ∷ 0 ∷ []) 0 4 ≡ 3
cut = refl

cut_is_a_block : IsBlock one_way (0 ∷ 0 ∷ []) 0 3
cut_is_a_block = record { some = lit≤ tt; few = lit≤ tt; remain = inr (lit≤ tt) }

-- where none remains a train asks for one step, and is told that it has arrived
asks_for_one : steps_of one_way (3 ∷ 1 ∷ []) 0 4 ≡ 1
asks_for_one = refl

arrived : AnswersBlock one_way (3 ∷ 1 ∷ []) 0 1 (First Arrived)
arrived = (refl, λ e. cc)
