-- What rounds of drivers and turns of the control come to.
use Rattle.std.specs.Prelude.{◌≡◌, ℕ, suc, ◌<◌, ◌⊎◌, ◌↔◌, List, [], ◌∷◌, length, Bool, IsTrue, All}
use Rattle.zone_yard.specs.declared.replies.Reply.TheVariants as one
use Rattle.zone_yard.specs.declared.replies.BlockReply.{BlockReply}
use Rattle.zone_yard.specs.declared.replies.BlockReply.TheVariants as block
use Rattle.zone_yard.specs.declared.replies.Turn.{Turn}
use Rattle.zone_yard.specs.declared.replies.Turn.TheVariants as turn
use Rattle.zone_yard.specs.Setup.{SharedYard}
use Rattle.zone_yard.specs.Passes.{Pass}
use Rattle.zone_yard.specs.Replies.{Replies, IsUnhindered, BlockReplies, IsBlockServed, Turns}
use Rattle.shared_run.specs.declared.rounds.Round.{Round}
use Rattle.shared_run.specs.declared.rounds.Round.TheVariants.{One, Block, Halved}

-- The answer to a block isn't that it can't be granted whole.
abbrev pub IsBlockAnswer : BlockReply → Type 0
IsBlockAnswer (block.NotWhole ticket step ask) = ⊥
IsBlockAnswer reply = Unit {0}

-- One round of a driver: a request for one step; or one for a block of steps, and where it can't be granted whole, then one for one step.
abbrev pub GoesRound : ℕ → Round → Pass → Pass → Type 0
GoesRound steps (One reply) old new = (steps ≡ 1) × Replies old reply new × IsUnhindered reply
GoesRound steps (Block reply) old new = (1 < steps) × BlockReplies steps old reply new × IsBlockServed reply × IsBlockAnswer reply
GoesRound steps (Halved ticket step ask reply) old new =
    (1 < steps) × ((middle : Pass) × BlockReplies steps old (block.NotWhole ticket step ask) middle × Replies middle reply new × IsUnhindered reply)

-- The driver has no more to ask for: each answer of the round was that it has arrived, or that its entries are spent.
abbrev pub HasNoMore : Round → Type 0
HasNoMore (One (one.Arrived ticket)) = Unit {0}
HasNoMore (One one.Spent) = Unit {0}
HasNoMore (Block (block.Arrived ticket)) = Unit {0}
HasNoMore (Block block.Spent) = Unit {0}
HasNoMore round = ⊥

-- All drivers are the yard's.
abbrev pub AllOurs : SharedYard → List Pass → Type 0
AllOurs yard drivers = All (λ d. d.yard ≡ yard) drivers

-- One round of each driver, in order.
abbrev pub AllGoRound : ℕ → List Round → List Pass → List Pass → Type 0
AllGoRound steps [] [] [] = Unit {0}
AllGoRound steps (round ∷ rounds) (old ∷ olds) (new ∷ news) = GoesRound steps round old new × AllGoRound steps rounds olds news
AllGoRound steps rounds olds news = ⊥

-- No driver has more to ask for.
abbrev pub HasFinished : List Round → Type 0
HasFinished told = All HasNoMore told

-- Every driver went a round, and this tells whether no driver has more to ask for.
abbrev pub AllAsked : ℕ → Bool → List Pass → List Pass → Type 0
AllAsked steps over olds news = (told : List Round) × AllGoRound steps told olds news × (IsTrue over ↔ HasFinished told)

-- Rounds of all drivers, one after the other; the list begins with the last.
abbrev pub MakesRounds : ℕ → List (List Round) → List Pass → List Pass → Type 0
MakesRounds steps [] olds news = news ≡ olds
MakesRounds steps (told ∷ earlier) olds news = (middle : List Pass) × MakesRounds steps earlier olds middle × AllGoRound steps told middle news

-- None before the last one was at an end; they are as many as were wanted, or fewer, and then the last one was. The list begins with the last.
abbrev pub EndsAtFirst : {A : Type 0} → (A → Type 0) → ℕ → List A → Type 0
EndsAtFirst AtEnd wanted [] = wanted ≡ 0
EndsAtFirst AtEnd wanted (last ∷ earlier) =
    All (λ one. AtEnd one → ⊥) earlier × ((suc (length earlier) ≡ wanted) ⊎ ((suc (length earlier) < wanted) × AtEnd last))

-- A group of drivers made all the rounds that were wanted, or ended after the first one in which no driver had more to ask for.
pub record Worked (rounds steps : ℕ) (olds news : List Pass) : Type 0 where
  pub told : List (List Round)
  pub made : MakesRounds steps told olds news
  pub ends : EndsAtFirst HasFinished rounds told

-- The turn had nothing to try.
abbrev pub IsLastTurn : Turn → Type 0
IsLastTurn turn.NoMore = Unit {0}
IsLastTurn turn.Spent = Unit {0}
IsLastTurn answer = ⊥

-- Turns of the control, one after the other; the list begins with the last.
abbrev pub MakesTurns : List Turn → Pass → Pass → Type 0
MakesTurns [] old new = new ≡ old
MakesTurns (answer ∷ earlier) old new = (middle : Pass) × MakesTurns earlier old middle × Turns middle answer new

-- The control made all the turns that were wanted, or ended after the first one that had nothing to try.
pub record Turned (rounds : ℕ) (old new : Pass) : Type 0 where
  pub turns : List Turn
  pub made : MakesTurns turns old new
  pub ends : EndsAtFirst IsLastTurn rounds turns
