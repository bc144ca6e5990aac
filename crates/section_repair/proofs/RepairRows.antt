-- Worked rows: the rounds of a repair of two trains head-on, and of two that pass one another.
use Rattle.std.proofs.Common.{◌≡◌, ℕ, zero, suc, ◌<◌, List, [], ◌∷◌, false, refl, subst, lit<, lit≤, arith}
use Rattle.rail_model.specs.declared.types.Node.TheVariants.{Clash, Overfull, Arrived as AtEnd}
use Rattle.rail_model.specs.Certificate.{Tree, full_box, clash, overfull, arrived, split as halves}
use Rattle.rail_model.specs.Move.{Move, Run, advance}
use Rattle.rail_model.specs.State.{Arrived}
use Rattle.rail_model.specs.Table.{Table, Mission, place}
use Rattle.cert_maker.specs.Rule.{RuleTree, leaf, stuck, split, IsRuleTree}
use Rattle.forbidden_states.specs.Forbid.{Stay, unmarked, marked}
use Rattle.section_repair.specs.declared.repaired.Repair.TheVariants.{Done, Spent, Rounds}
use Rattle.section_repair.specs.Claims.{Completable, IsApart}
use Rattle.section_repair.specs.Repairs.{Treats, IsReached, Repairs}
use Rattle.forbidden_states.proofs.Apart.{two_apart}
use Rattle.section_repair.proofs.Samples.{stay, head_on}

-- both at their starts
abbrev pub starts : List Stay
starts = stay 0 0 0 ∷ stay 1 0 0 ∷ []

abbrev pub mended : Table
mended = marked head_on (starts ∷ [])

abbrev before_tree : RuleTree
before_tree = split 0 0 (split 1 0 (stuck (0 ∷ 0 ∷ [])) (leaf (Clash 0 1))) (split 1 0 (leaf (Clash 0 1)) (leaf AtEnd))

before_rule : IsRuleTree (marked head_on []) (full_box (marked head_on [])) before_tree
before_rule = (refl, refl, refl, (refl, refl, refl, (refl, refl, refl), refl), (refl, refl, refl, refl, refl))

abbrev after_tree : RuleTree
after_tree = split 0 0 (split 1 0 (leaf (Overfull 0)) (leaf (Clash 0 1))) (split 1 0 (leaf (Clash 0 1)) (leaf AtEnd))

after_rule : IsRuleTree mended (full_box mended) after_tree
after_rule = (refl, refl, refl, (refl, refl, refl, refl, refl), (refl, refl, refl, refl, refl))

abbrev pub certificate : Tree
certificate = halves 0 0 (halves 1 0 (overfull 0) (clash 0 1)) (halves 1 0 (clash 0 1) arrived)

treats : Treats head_on 7 [] ((0 ∷ 0 ∷ []) ∷ []) (starts ∷ [])
treats = (lit≤ tt, (before_tree, before_rule, (refl, lit≤ tt)), refl)

is_reached : IsReached head_on 7 ((0 ∷ 0 ∷ []) ∷ []) (starts ∷ []) mended
is_reached = record { treats = treats; few = lit≤ tt; table = refl }

none_reached : (budget : ℕ) → IsReached head_on budget [] [] (unmarked head_on)
none_reached budget = record { treats = refl; few = lit≤ tt; table = refl }

-- one round, where one is allowed
pub done : Repairs head_on 7 1 (Done mended certificate 1)
done = ((0 ∷ 0 ∷ []) ∷ [], starts ∷ [], is_reached, refl, lit≤ tt, (after_tree, after_rule, (refl, lit≤ tt)))

-- none is allowed
no_round : Repairs head_on 7 0 (Rounds (unmarked head_on) 0 (0 ∷ 0 ∷ []))
no_round = ([], [], none_reached 7, refl, refl, (before_tree, before_rule, (refl, lit≤ tt)))

-- the stuck state takes two nodes
spent_at_1 : Repairs head_on 1 5 (Spent (unmarked head_on) 1)
spent_at_1 = ([], [], none_reached 1, lit≤ tt, (before_tree, before_rule, (refl, lit< tt)))

-- no train can move from the starts, so not all can arrive
pub dead : Completable head_on (0 ∷ 0 ∷ []) → ⊥
dead ([], q, same, ends) = let end = ends 0 (lit< tt) in let start = subst (λ (p : List ℕ). place p 0 ≡ 1) same end in cc
dead (i ∷ later, q, (m, move, rest), ends) = first i (subst (IsApart head_on) move.step move.after) move.train
  where
    first : (i : ℕ) → IsApart head_on (advance (0 ∷ 0 ∷ []) i) → i < 2 → ⊥
    first zero legal lt = legal.apart 0 1 1 (lit< tt) (lit< tt) (λ e. cc) refl refl
    first (suc zero) legal lt = legal.apart 0 1 0 (lit< tt) (lit< tt) (λ e. cc) refl refl
    first (suc (suc i)) legal lt = omega (arith, lt)

-- the passing loop
abbrev pub passing : List Mission
passing = (record { points = 0 ∷ 1 ∷ 2 ∷ []; exits = false }) ∷ (record { points = 2 ∷ 3 ∷ 0 ∷ []; exits = false }) ∷ []

pub passing_starts : IsApart passing (0 ∷ 0 ∷ [])
passing_starts = two_apart passing 0 0 refl (lit≤ tt) (lit≤ tt) refl

moves : (p : List ℕ) (i : ℕ) → i < 2 → IsApart passing p → IsApart passing (advance p i) → Move (unmarked passing) p i (advance p i)
moves p i i_in before after = record { before = before; train = i_in; step = refl; after = after; free = λ c held. let none = held.1 in cc }

pub completable : Completable passing (0 ∷ 0 ∷ [])
completable = (
  0 ∷ 1 ∷ 0 ∷ 1 ∷ [],
  2 ∷ 2 ∷ [],
  (1 ∷ 0 ∷ [], moves (0 ∷ 0 ∷ []) 0 (lit< tt) passing_starts one, (1 ∷ 1 ∷ [], moves (1 ∷ 0 ∷ []) 1 (lit< tt) one two, last_two)),
  both,
)
  where
    one : IsApart passing (1 ∷ 0 ∷ [])
    one = two_apart passing 1 0 refl (lit≤ tt) (lit≤ tt) refl

    two : IsApart passing (1 ∷ 1 ∷ [])
    two = two_apart passing 1 1 refl (lit≤ tt) (lit≤ tt) refl

    three : IsApart passing (2 ∷ 1 ∷ [])
    three = two_apart passing 2 1 refl (lit≤ tt) (lit≤ tt) refl

    four : IsApart passing (2 ∷ 2 ∷ [])
    four = two_apart passing 2 2 refl (lit≤ tt) (lit≤ tt) refl

    last_two : Run (unmarked passing) (1 ∷ 1 ∷ []) (0 ∷ 1 ∷ []) (2 ∷ 2 ∷ [])
    last_two = (2 ∷ 1 ∷ [], moves (1 ∷ 1 ∷ []) 0 (lit< tt) two three, (2 ∷ 2 ∷ [], moves (2 ∷ 1 ∷ []) 1 (lit< tt) three four, refl))

    both : Arrived (unmarked passing) (2 ∷ 2 ∷ [])
    both zero lt = refl
    both (suc zero) lt = refl
    both (suc (suc i)) lt = absurd (omega (arith, lt))
