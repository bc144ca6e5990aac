-- How passes board and leave, and what a yard comes to when it is closed.
use Rattle.std.specs.Prelude.{◌≡◌, ℕ, ◌+◌, ◌<◌, [], ◌∷◌, ◌++◌, Result, Ok, Err}
use Rattle.rail_model.specs.Plain.{Plain}
use Rattle.rail_model.specs.Lines.{journal_of}
use Rattle.plain_yard.specs.Keeps.{Keeps}
use Rattle.zone_yard.specs.Setup.{SharedYard, state_after, IsLegalHistory, most_passes}
use Rattle.zone_yard.specs.declared.replies.Board.{Board}
use Rattle.zone_yard.specs.declared.replies.Board.TheVariants.{Taken, Memory}
use Rattle.zone_yard.specs.Passes.{Pass, Root, StartsWith, HasBoarded, entries_of, done_of, standing}

-- a root from which nobody has boarded
abbrev pub fresh_root : SharedYard → Root
fresh_root yard = record { yard = yard; seen = []; done = []; out = 0; boarded = [] }

-- a pass that boards: it has seen what the root has, has made no entry, stands where the yard opened, and holds and owes nothing
abbrev pub boarded_pass : Root → ℕ → Pass
boarded_pass root p = record {
  yard = root.yard;
  number = p;
  position = standing root.yard.setup.opening.yard p;
  seen = root.seen;
  mine = [];
  tries = [];
  held = [];
  owed = [];
}

-- the root as the pass boards
abbrev pub with_pass : Root → ℕ → Root
with_pass root p = record root { boarded = p ∷ root.boarded; out = root.out + 1 }

-- The root as the pass leaves: one less is out, the pass's entries are put to those that are done, and the root has seen a legal history
-- that begins with all that either of them had seen.
pub record TakesBack (old : Root) (pass : Pass) (new : Root) : Type 0 where
  pub out : new.out + 1 ≡ old.out
  pub done : new.done ≡ (pass.number, pass.mine) ∷ old.done
  pub boarded : new.boarded ≡ old.boarded
  pub yard : new.yard ≡ old.yard
  pub legal : IsLegalHistory old.yard.setup new.seen
  pub own : StartsWith new.seen old.seen
  pub theirs : StartsWith new.seen pass.seen

-- The state to which a yard is closed: the root has seen the whole history, which is legal and has of each pass the entries that it left
-- with. The state is the one after it, and its lines are those of the opening state and then the history's journal.
pub record Closes (root : Root) (state : Plain) : Type 0 where
  pub legal : IsLegalHistory root.yard.setup root.seen
  pub passes : (p : ℕ) → p < most_passes → entries_of p root.seen ≡ done_of p root.done
  pub yard : state.yard ≡ state_after root.yard.setup root.seen
  pub lines : state.lines ≡ root.yard.setup.opening.lines ++ journal_of root.yard.setup.tables root.yard.setup.opening.yard root.seen
  pub keeps : Keeps root.yard.setup.tables state.yard state.lines

-- What a pass that boards is answered: a pass where it never boarded before, else `Taken`; `Memory` comes only after that test. Where
-- it gets no pass the root is as it was.
abbrev pub Boards : Root → ℕ → Result Pass Board → Root → Type 0
Boards old p (Ok pass) new = (HasBoarded old p → ⊥) × (pass ≡ boarded_pass old p) × (new ≡ with_pass old p)
Boards old p (Err Taken) new = HasBoarded old p × (new ≡ old)
Boards old p (Err Memory) new = (HasBoarded old p → ⊥) × (new ≡ old)
