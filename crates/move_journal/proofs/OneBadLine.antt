-- Lines are right, or have one first line that isn't.
use Rattle.std.proofs.Common.{◌≡◌, ℕ, ◌+◌, List, [], ◌∷◌, ◌++◌, length, sym, ap, ◌∙◌, subst, arith, inl, inr}
use Rattle.rail_model.specs.declared.types.Ask.{Ask}
use Rattle.rail_model.specs.declared.types.Ask.TheVariants.{Yes}
use Rattle.rail_model.specs.declared.types.Line.{Line}
use Rattle.rail_model.specs.declared.types.Line.TheVariants.{Move, Table as TableLine, KeptDiffers, KeptOver}
use Rattle.rail_model.specs.State.{Legal}
use Rattle.rail_model.specs.Move.{Answers}
use Rattle.rail_model.specs.Yard.{Offer, Yard, in_force}
use Rattle.rail_model.specs.Journal.{IsLine, IsRight, after_line, after_lines}
use Rattle.rail_model.proofs.Asks.{told_once}
use Rattle.table_exchange.specs.Tables.{AreTables, Stands}
use Rattle.table_exchange.proofs.Standings.{stands_line}
use Rattle.move_journal.specs.declared.faults.BadLine.{BadLine}
use Rattle.move_journal.specs.declared.faults.BadLine.TheVariants as bad
use Rattle.move_journal.specs.Replays.{IsRefusedMove, IsMisplaced, IsWrongTable, IsBad, HasBadLine}

-- one of three causes
data Cause (tables : List Offer) (y : Yard) (k : ℕ) (l : Line) (e : BadLine) : Type 0 where
  refused : (ask : Ask) → e ≡ bad.Move k ask → IsRefusedMove tables y l ask → Cause tables y k l e
  misplaced : e ≡ bad.Place k → IsMisplaced tables y l → Cause tables y k l e
  wrong : e ≡ bad.Table k → IsWrongTable tables y l → Cause tables y k l e

cause_of : (tables : List Offer) (y : Yard) (k : ℕ) (l : Line) (e : BadLine) → IsBad tables y k l e → Cause tables y k l e
cause_of tables y k l (bad.Move j ask) h = refused ask (ap (λ n. bad.Move n ask) h.0) h.1
cause_of tables y k l (bad.Place j) h = misplaced (ap bad.Place h.0) h.1
cause_of tables y k l (bad.Table j) h = wrong (ap bad.Table h.0) h.1
cause_of tables y k l (bad.Unfinished j) h = absurd h
cause_of tables y k l (bad.Open j) h = absurd h
cause_of tables y k l bad.Counts h = absurd h
cause_of tables y k l bad.Memory h = absurd h

refused_once : (tables : List Offer) (y : Yard) (l : Line) (a b : Ask) → Legal (in_force tables y) y.positions → IsRefusedMove tables y l a → IsRefusedMove tables y l b → a ≡ b
refused_once tables y (Move i from to) a b legal p q = told_once (in_force tables y) y.positions i a b legal p.1 q.1
refused_once tables y (TableLine t) a b legal p q = absurd p
refused_once tables y (KeptDiffers t i k) a b legal p q = absurd p
refused_once tables y (KeptOver t s n) a b legal p q = absurd p

refused_not_misplaced : (tables : List Offer) (y : Yard) (l : Line) (a : Ask) → IsRefusedMove tables y l a → IsMisplaced tables y l → ⊥
refused_not_misplaced tables y (Move i from to) a p (inl none) = omega (arith, p.0, none)
refused_not_misplaced tables y (Move i from to) a (within, answer, other_told, inl end) (inr other) = other.0 (subst (Answers (in_force tables y) y.positions i) end answer)
refused_not_misplaced tables y (Move i from to) a (within, answer, other_told, inr step) (inr other) = other.1 step
refused_not_misplaced tables y (TableLine t) a p q = p
refused_not_misplaced tables y (KeptDiffers t i k) a p q = p
refused_not_misplaced tables y (KeptOver t s n) a p q = p

-- a move and a table's line
refused_not_wrong : (tables : List Offer) (y : Yard) (l : Line) (a : Ask) → IsRefusedMove tables y l a → IsWrongTable tables y l → ⊥
refused_not_wrong tables y (Move i from to) a p q = q
refused_not_wrong tables y (TableLine t) a p q = p
refused_not_wrong tables y (KeptDiffers t i k) a p q = p
refused_not_wrong tables y (KeptOver t s n) a p q = p

misplaced_not_wrong : (tables : List Offer) (y : Yard) (l : Line) → IsMisplaced tables y l → IsWrongTable tables y l → ⊥
misplaced_not_wrong tables y (Move i from to) p q = q
misplaced_not_wrong tables y (TableLine t) p q = p
misplaced_not_wrong tables y (KeptDiffers t i k) p q = p
misplaced_not_wrong tables y (KeptOver t s n) p q = p

-- a line is bad for one cause
one_cause : (tables : List Offer) (y : Yard) (k : ℕ) (l : Line) (e f : BadLine) → Legal (in_force tables y) y.positions
    → Cause tables y k l e → Cause tables y k l f → e ≡ f
one_cause tables y k l e f legal (refused a is p) (refused b also q) = is ∙ ap (bad.Move k) (refused_once tables y l a b legal p q) ∙ sym also
one_cause tables y k l e f legal (refused a is p) (misplaced also q) = absurd (refused_not_misplaced tables y l a p q)
one_cause tables y k l e f legal (refused a is p) (wrong also q) = absurd (refused_not_wrong tables y l a p q)
one_cause tables y k l e f legal (misplaced is p) (refused b also q) = absurd (refused_not_misplaced tables y l b q p)
one_cause tables y k l e f legal (misplaced is p) (misplaced also q) = is ∙ sym also
one_cause tables y k l e f legal (misplaced is p) (wrong also q) = absurd (misplaced_not_wrong tables y l p q)
one_cause tables y k l e f legal (wrong is p) (refused b also q) = absurd (refused_not_wrong tables y l b q p)
one_cause tables y k l e f legal (wrong is p) (misplaced also q) = absurd (misplaced_not_wrong tables y l q p)
one_cause tables y k l e f legal (wrong is p) (wrong also q) = is ∙ sym also

-- a line that is right is not bad
right_not_bad : (tables : List Offer) (y : Yard) (k : ℕ) (l : Line) (e : BadLine) → IsLine tables y l → Cause tables y k l e → ⊥
right_not_bad tables y k (Move i from to) e line (refused a is p) = p.2 (told_once (in_force tables y) y.positions i a Yes line.0.before p.1 line.0)
right_not_bad tables y k (Move i from to) e line (misplaced is (inl none)) = omega (arith, line.0.train, none)
right_not_bad tables y k (Move i from to) e line (misplaced is (inr other)) = other.1 (line.1, line.2)
right_not_bad tables y k (Move i from to) e line (wrong is p) = p
right_not_bad tables y k (TableLine t) e line (refused a is p) = p
right_not_bad tables y k (TableLine t) e line (misplaced is p) = p
right_not_bad tables y k (TableLine t) e line (wrong is p) = p line
right_not_bad tables y k (KeptDiffers t i m) e line (refused a is p) = p
right_not_bad tables y k (KeptDiffers t i m) e line (misplaced is p) = p
right_not_bad tables y k (KeptDiffers t i m) e line (wrong is p) = p line
right_not_bad tables y k (KeptOver t s n) e line (refused a is p) = p
right_not_bad tables y k (KeptOver t s n) e line (misplaced is p) = p
right_not_bad tables y k (KeptOver t s n) e line (wrong is p) = p line

line_within : (tables : List Offer) (y : Yard) (front : List Line) (l : Line) (later : List Line) → IsRight tables y (front ++ l ∷ later) → IsLine tables (after_lines y front) l
line_within tables y [] l later right = right.0
line_within tables y (x ∷ front) l later right = line_within tables (after_line y x) front l later right.1

pub right_or_bad : (tables : List Offer) (y : Yard) (lines : List Line) (e : BadLine) → IsRight tables y lines → HasBadLine tables y lines e → ⊥
right_or_bad tables y lines e right h =
    right_not_bad tables (after_lines y h.0) (length h.0 + 1) h.1 e (line_within tables y h.0 h.1 h.2 (subst (IsRight tables y) h.3 right))
    (cause_of tables (after_lines y h.0) (length h.0 + 1) h.1 e h.5)

-- two first bad lines of the same lines, counted from k on
one_bad_from : (tables : List Offer) (y : Yard) (m n k : ℕ) (xs ys : List Line) (l r : Line) (ls rs : List Line) (e f : BadLine) → AreTables tables → Stands tables y
    → xs ++ l ∷ ls ≡ ys ++ r ∷ rs → m ≡ k + length xs → n ≡ k + length ys → IsRight tables y xs → IsRight tables y ys
    → Cause tables (after_lines y xs) m l e → Cause tables (after_lines y ys) n r f → e ≡ f
one_bad_from tables y m n k [] [] l r ls rs e f are s same mk nk p q h g =
    let heads : l ≡ r = cc in
    let numbers : m ≡ n = omega arith in
    one_cause tables y n r e f s.legal (subst (λ j. Cause tables y j r e) numbers (subst (λ x. Cause tables y m x e) heads h)) g
one_bad_from tables y m n k [] (x ∷ ys) l r ls rs e f are s same mk nk p q h g =
    let heads : l ≡ x = cc in
    absurd (right_not_bad tables y m x e q.0 (subst (λ z. Cause tables y m z e) heads h))
one_bad_from tables y m n k (x ∷ xs) [] l r ls rs e f are s same mk nk p q h g =
    let heads : r ≡ x = cc in
    absurd (right_not_bad tables y n x f p.0 (subst (λ z. Cause tables y n z f) heads g))
one_bad_from tables y m n k (x ∷ xs) (z ∷ ys) l r ls rs e f are s same mk nk p q h g =
    let heads : z ≡ x = cc in
    let tails : xs ++ l ∷ ls ≡ ys ++ r ∷ rs = cc in
    one_bad_from tables (after_line y x) m n (k + 1) xs ys l r ls rs e f are (stands_line tables y x are s p.0) tails (omega arith) (omega arith) p.1
    (subst (λ w. IsRight tables (after_line y w) ys) heads q.1) h (subst (λ w. Cause tables (after_lines (after_line y w) ys) n r f) heads g)

pub one_bad : (tables : List Offer) (y : Yard) (lines : List Line) (e f : BadLine) → AreTables tables → Stands tables y → HasBadLine tables y lines e → HasBadLine tables y lines f → e ≡ f
one_bad tables y lines e f are s h g =
    one_bad_from tables y (length h.0 + 1) (length g.0 + 1) 1 h.0 g.0 h.1 g.1 h.2 g.2 e f are s (sym h.3 ∙ g.3) (omega arith) (omega arith) h.4 g.4
    (cause_of tables (after_lines y h.0) (length h.0 + 1) h.1 e h.5) (cause_of tables (after_lines y g.0) (length g.0 + 1) g.1 f g.5)
