-- What a call leaves of its pass: entries at a ticket of the one history, or nothing new.
use Rattle.std.specs.Prelude.{◌≡◌, ℕ, ◌<◌, List, ◌++◌, length}
use Rattle.rail_model.specs.declared.types.Entry.{Entry}
use Rattle.rail_model.specs.declared.types.Reply.{Reply}
use Rattle.zone_yard.specs.Setup.{state_after, IsLegalHistory}
use Rattle.zone_yard.specs.Passes.{Pass, StartsWith, IsFree, told, receipts_from, entries_of, standing}

-- The pass was answered by these replies in entries at the ticket and the places after it: they end a legal history that begins with all that
-- the pass had seen, and are all that its own entries have gained.
pub record Enters (ticket : ℕ) (replies : List Reply) (old new : Pass) : Type 0 where
  pub before : List Entry
  pub begins : StartsWith before old.seen
  pub counted : length before ≡ ticket
  pub seen : new.seen ≡ before ++ told old.number replies
  pub legal : IsLegalHistory old.yard.setup new.seen
  pub mine : new.mine ≡ old.mine ++ receipts_from ticket (told old.number replies)
  pub own : entries_of new.number new.seen ≡ new.mine
  pub stands : new.position ≡ standing (state_after old.yard.setup new.seen) new.number
  pub number : new.number ≡ old.number
  pub yard : new.yard ≡ old.yard
  pub tries : StartsWith new.tries old.tries
  pub free : IsFree new

-- The pass may make one entry more.
abbrev pub HasRoom : Pass → Type 0
HasRoom pass = length pass.mine < pass.yard.setup.calls

-- The pass has made all entries that it may make.
abbrev pub IsSpent : Pass → Type 0
IsSpent pass = length pass.mine ≡ pass.yard.setup.calls

-- Nothing was changed, and nothing is held.
abbrev pub ChangesNothing : Pass → Pass → Type 0
ChangesNothing old new = (new ≡ old) × IsFree new

-- It is the same pass of the same yard.
abbrev pub IsSamePass : Pass → Pass → Type 0
IsSamePass old new = (new.number ≡ old.number) × (new.yard ≡ old.yard)
