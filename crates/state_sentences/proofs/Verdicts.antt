-- What trains are told: those that have no move, and those that have not arrived.
use Rattle.std.proofs.Common.{◌≡◌, ℕ, List, String, Global, ◌+◌, ◌++◌, subst, refl}
use Rattle.rail_model.specs.declared.types.Ask.{Ask}
use Rattle.rail_model.specs.declared.types.Ask.TheVariants.{Yes, Arrived as AtEnd, Occupied, Full, Waits}
use Rattle.rail_model.specs.Names.{Names}
use Rattle.rail_model.specs.Table.{Table, place}
use Rattle.rail_model.specs.State.{Legal}
use Rattle.rail_model.specs.Move.{Answers, Move}
use Rattle.rail_model.proofs.Asks.{told_once}
use Rattle.state_sentences.specs.Explanation.{next_words, reason_words, told_words}

-- a train whose answer is not yes has no move
pub stays : (T : Table) (p : List ℕ) (i : ℕ) (a : Ask) → Legal T p → Answers T p i a → (a ≡ Yes → ⊥) → (q : List ℕ) → Move T p i q → ⊥
stays T p i a legal told other q move = other (told_once T p i a Yes legal told (subst (Move T p i) move.step move))

-- the words on a train that has not arrived
pub words_on_the_way : (N : Names) (S : List (String Global)) (T : Table) (p : List ℕ) (i : ℕ) (a : Ask) → (a ≡ AtEnd → ⊥) → next_words N T i (place p i + 1) ++ reason_words N S T p i a ≡ told_words N S T p i a
words_on_the_way N S T p i AtEnd other = absurd (other refl)
words_on_the_way N S T p i Yes other = refl
words_on_the_way N S T p i (Occupied by) other = refl
words_on_the_way N S T p i (Full s n) other = refl
words_on_the_way N S T p i (Waits c) other = refl
