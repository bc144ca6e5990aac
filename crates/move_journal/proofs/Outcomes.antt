-- What a replay comes to, line after line.
use Rattle.std.proofs.Common.{◌≡◌, ℕ, ◌+◌, ◌<◌, List, [], ◌∷◌, ◌++◌, length, length-take-le, take, drop, get_or, zero, suc, Err, refl, sym, ap, ◌∙◌, subst, arith}
use Rattle.std.proofs.lemmas.List.{take_more}
use Rattle.rail_model.specs.declared.types.Line.{Line}
use Rattle.rail_model.specs.Yard.{Offer, Yard}
use Rattle.rail_model.specs.Journal.{Journal, IsLine, IsRight, after_line, after_lines}
use Rattle.move_journal.specs.declared.faults.BadLine.{BadLine}
use Rattle.move_journal.specs.declared.faults.BadLine.TheVariants as bad
use Rattle.move_journal.specs.Replays.{IsBad, HasBadLine, Replays}

-- one more right line
pub right_push : (tables : List Offer) (y : Yard) (front : List Line) (l : Line) → IsRight tables y front → IsLine tables (after_lines y front) l → IsRight tables y (front ++ l ∷ [])
right_push tables y [] l right line = (line, tt)
right_push tables y (x ∷ front) l right line = (right.0, right_push tables (after_line y x) front l right.1 line)

pub after_push : (y : Yard) (front : List Line) (l : Line) → after_lines y (front ++ l ∷ []) ≡ after_line (after_lines y front) l
after_push y [] l = refl
after_push y (x ∷ front) l = after_push (after_line y x) front l

-- the line that was looked at is bad
pub bad_at : (tables : List Offer) (start : Yard) (lines : List Line) (i k : ℕ) (y : Yard) (d : Line) (e : BadLine) → i < length lines
    → IsRight tables start (take i lines) → y ≡ after_lines start (take i lines) → k ≡ i + 1 → IsBad tables y k (get_or lines i d) e → HasBadLine tables start lines e
bad_at tables start lines i k y d e within right is number h =
    let size : length (take i lines) ≡ i = length-take-le i lines (omega arith) in
    let number_is : k ≡ length (take i lines) + 1 = omega arith in (
      take i lines,
      get_or lines i d,
      drop (suc i) lines,
      split_here lines i d within,
      right,
      subst (λ z. IsBad tables z (length (take i lines) + 1) (get_or lines i d) e) is (subst (λ n. IsBad tables y n (get_or lines i d) e) number_is h),
    )
  where
    split_here : (lines : List Line) (i : ℕ) (d : Line) → i < length lines → lines ≡ take i lines ++ get_or lines i d ∷ drop (suc i) lines
    split_here [] i d within = absurd (omega arith)
    split_here (x ∷ xs) zero d within = refl
    split_here (x ∷ xs) (suc i) d within = ap (λ ys. x ∷ ys) (split_here xs i d (omega arith))

pub replays_err : (tables : List Offer) (y : Yard) (K : Journal) (e : BadLine) → HasBadLine tables y K.lines e → Replays tables y K (Err e)
replays_err tables y K (bad.Move j ask) h = h
replays_err tables y K (bad.Place j) h = h
replays_err tables y K (bad.Table j) h = h
replays_err tables y K (bad.Unfinished i) h = h
replays_err tables y K (bad.Open t) h = h
replays_err tables y K bad.Counts h = h
replays_err tables y K bad.Memory h = tt

-- the line that was looked at is right
pub right_more : (tables : List Offer) (start y z : Yard) (lines : List Line) (i : ℕ) (d : Line) → i < length lines
    → IsRight tables start (take i lines) → y ≡ after_lines start (take i lines) → IsLine tables y (get_or lines i d) → z ≡ after_line y (get_or lines i d)
    → IsRight tables start (take (i + 1) lines) × (z ≡ after_lines start (take (i + 1) lines))
right_more tables start y z lines i d within right is line after =
    let l = get_or lines i d in
    let more : take (i + 1) lines ≡ take i lines ++ get_or lines i d ∷ [] = take_more lines i d within in (
      subst (IsRight tables start) (sym more) (right_push tables start (take i lines) l right (subst (λ w. IsLine tables w l) is line)),
      after ∙ ap (λ w. after_line w l) is ∙ sym (after_push start (take i lines) l) ∙ sym (ap (after_lines start) more),
    )
