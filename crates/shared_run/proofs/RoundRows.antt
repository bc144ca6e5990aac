-- Rows: rounds of drivers, turns of the control, and groups of both, on small yards.
use Rattle.std.proofs.Common.{List, [], ◌∷◌, refl, arith, lit<, inl, inr}
use Rattle.std.proofs.lemmas.List.Elements.{All-cons, All-nil}
use Rattle.zone_yard.specs.declared.replies.Reply.TheVariants as one
use Rattle.zone_yard.specs.declared.replies.BlockReply.TheVariants as block
use Rattle.zone_yard.specs.declared.replies.Turn.TheVariants as turn
use Rattle.rail_model.specs.declared.types.Ask.TheVariants.{Arrived}
use Rattle.zone_yard.specs.Passes.{Pass}
use Rattle.zone_yard.proofs.Samples.{boarded, four_zones}
use Rattle.zone_yard.proofs.Rows.{granted_after}
use Rattle.shared_run.specs.declared.rounds.Round.{Round}
use Rattle.shared_run.specs.declared.rounds.Round.TheVariants.{One, Block}
use Rattle.shared_run.specs.declared.groups.Group.TheVariants.{Control}
use Rattle.shared_run.specs.Rounds.{IsBlockAnswer, GoesRound, HasNoMore, AllGoRound, HasFinished, EndsAtFirst, Worked, IsLastTurn, MakesTurns, Turned}
use Rattle.shared_run.specs.Groups.{IsOurGroup, GroupWorked}

-- a driver that may make one entry, and has made it
abbrev made : Pass
made = granted_after (four_zones 1) 0 []

spent : GoesRound 1 (One one.Spent) made made
spent = (refl, (refl, (refl, (refl, refl))), tt)

-- a round of one step isn't one of blocks
not_of_blocks : (new : Pass) → GoesRound 1 (Block block.Spent) made new → ⊥
not_of_blocks new round = let lt = round.0 in omega (arith, lt)

ends : HasNoMore (One (one.Arrived 3)) × HasNoMore (One one.Spent) × HasNoMore (Block (block.Arrived 3)) × (HasNoMore (One (one.Granted 3)) → ⊥)
ends = (tt, tt, tt, λ end. end)

-- after a block that can't be granted whole there is one request more, so the block is no answer
whole : IsBlockAnswer (block.Granted 0 2) × (IsBlockAnswer (block.NotWhole 0 1 Arrived) → ⊥)
whole = (tt, λ none. none)

-- a group is over once no driver has more to ask for
all_spent : HasFinished (One one.Spent ∷ [])
all_spent = All-cons HasNoMore (One one.Spent) [] tt (All-nil HasNoMore)

over : HasFinished (One (one.Arrived 3) ∷ One one.Spent ∷ [])
over = All-cons HasNoMore (One (one.Arrived 3)) (One one.Spent ∷ []) tt all_spent

not_over : HasFinished (One one.Spent ∷ One (one.Granted 0) ∷ []) → ⊥
not_over over = over 1 (One one.Spent) (lit< tt)

-- one round of five, since nobody has more to ask for
worked : Worked 5 1 (made ∷ []) (made ∷ [])
worked = record {
  told = (One one.Spent ∷ []) ∷ [];
  made = (made ∷ [], refl, (spent, tt));
  ends = (All-nil (λ one. HasFinished one → ⊥), inr (lit< tt, all_spent));
}

-- no round at all, where none is wanted
no_round : Worked 0 1 (boarded (four_zones 9) 0 ∷ []) (boarded (four_zones 9) 0 ∷ [])
no_round = record { told = []; made = refl; ends = refl }

-- a driver isn't left out
not_left_out : (told : List Round) → AllGoRound 1 told (made ∷ []) [] → ⊥
not_left_out [] none = none
not_left_out (round ∷ told) none = none

-- no more rounds are made than are wanted, and fewer only up to the first that is over
no_more : EndsAtFirst HasFinished 0 ((One (one.Granted 0) ∷ []) ∷ []) → ⊥
no_more ends = elim ends.1 [
  | inl all ↦ omega (arith, all)
  | inr few ↦ let lt = few.0 in omega (arith, lt)
]

no_fewer : EndsAtFirst HasFinished 5 ((One (one.Granted 0) ∷ []) ∷ []) → ⊥
no_fewer ends = elim ends.1 [
  | inl all ↦ omega (arith, all)
  | inr few ↦ few.1 0 (One one.Spent) (lit< tt)
]

not_after_the_first : EndsAtFirst HasFinished 2 ((One one.Spent ∷ []) ∷ (One one.Spent ∷ []) ∷ []) → ⊥
not_after_the_first ends = ends.0 0 [] (lit< tt) all_spent

-- the control of a yard with one table has nothing to try
abbrev control : Pass
control = boarded (four_zones 9) 32

tried : MakesTurns (turn.NoMore ∷ []) control control
tried = (control, refl, (lit< tt, (λ more. omega (arith, more)), (refl, (refl, refl))))

turned : Turned 5 control control
turned = record { turns = turn.NoMore ∷ []; made = tried; ends = (All-nil (λ one. IsLastTurn one → ⊥), inr (lit< tt, tt)) }

last_turns : IsLastTurn turn.NoMore × IsLastTurn turn.Spent × (IsLastTurn (turn.Early 0 0) → ⊥)
last_turns = (tt, tt, (λ none. none))

-- the control doesn't turn on
no_turn_more : EndsAtFirst IsLastTurn 2 (turn.NoMore ∷ turn.NoMore ∷ []) → ⊥
no_turn_more ends = ends.0 0 turn.NoMore (lit< tt) tt

groups : IsOurGroup (four_zones 9) (Control control) × GroupWorked 5 1 (Control control) (Control control)
groups = (refl, turned)
