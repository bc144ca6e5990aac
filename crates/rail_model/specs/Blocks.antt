-- Blocks: up to four steps that a train asks for at once, what it is told, and the entries of the answer.
use Rattle.std.specs.Prelude.{◌≡◌, ◌⊎◌, ℕ, ◌+◌, ◌-◌, ◌<◌, ◌≤◌, min, max, List, [], ◌∷◌, replicate}
use Rattle.rail_model.specs.declared.types.Ask.TheVariants.{Yes as Granted}
use Rattle.rail_model.specs.declared.types.BlockAsk.{BlockAsk}
use Rattle.rail_model.specs.declared.types.BlockAsk.TheVariants.{Yes, First, NotWhole}
use Rattle.rail_model.specs.declared.types.Reply.TheVariants as reply
use Rattle.rail_model.specs.declared.types.Entry.{Entry}
use Rattle.rail_model.specs.Table.{Table, last, place}
use Rattle.rail_model.specs.Move.{Answers, Run}
use Rattle.rail_model.specs.Yard.{advanced, StopsAfter}

-- One to four steps, and no more than remain; but one step where none remains.
pub record IsBlock (T : Table) (p : List ℕ) (i n : ℕ) : Type 0 where
  pub some : 1 ≤ n
  pub few : n ≤ 4
  pub remain : (n ≡ 1) ⊎ (place p i + n ≤ last T i)

-- the size of the block of a train that wants this many steps: all of them, or else those that remain, or one where none remains
abbrev pub steps_of : Table → List ℕ → ℕ → ℕ → ℕ
steps_of T p i want = min want (max 1 (last T i - place p i))

-- What train i is told that asks for a block of n steps: Yes where all of them can be made; else the answer to the first,
-- where that isn't granted; else how many could be made, and the answer after them.
abbrev pub AnswersBlock : Table → List ℕ → ℕ → ℕ → BlockAsk → Type 0
AnswersBlock T p i n Yes = (0 < n) × Run T p (replicate n i) (advanced p i n)
AnswersBlock T p i n (First ask) = Answers T p i ask × (ask ≡ Granted → ⊥)
AnswersBlock T p i n (NotWhole step ask) = (step < n) × StopsAfter T p i step ask

-- the entries of a block's answer: one grant for each step, or the one answer that there is
abbrev pub block_entries : ℕ → ℕ → BlockAsk → List Entry
block_entries i n Yes = replicate n (record { who = i; reply = reply.Driver Granted })
block_entries i n (First ask) = record { who = i; reply = reply.Driver ask } ∷ []
block_entries i n (NotWhole step ask) = record { who = i; reply = reply.NotWhole step ask } ∷ []
