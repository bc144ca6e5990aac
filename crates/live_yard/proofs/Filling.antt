-- A row of the index that is filled by the lines, from the last to the first.
use Rattle.std.proofs.Common.{◌≡◌, ◌≢◌, ℕ, ◌+◌, ◌-◌, ◌*◌, ◌<◌, ◌≤◌, List, length, cond, drop, get_or, Bool, true, false}
use Rattle.std.proofs.Common.{sym, ap, subst, ◌∙◌, arith, inl, inr}
use Rattle.std.specs.Prelude.{slice_set}
use Rattle.std.proofs.lemmas.Bool.{cases_eq}
use Rattle.std.proofs.lemmas.List.{get_or-set_same, get_or-set_other}
use Rattle.std.proofs.lemmas.Option.{slice_get-get_or}
use Rattle.rail_model.specs.declared.types.Line.{Line}
use Rattle.live_yard.specs.GrantedLines.{IsPassed, moves, moves_of}
use Rattle.live_yard.specs.PassedPlaces.{KeepsOtherRows}
use Rattle.live_yard.specs.declared.granted_lines.Passed.{Passed}
use Rattle.live_yard.specs.declared.granted_lines.Passed.TheVariants.{Begun, Granted}
use Rattle.live_yard.proofs.PassedPlaces.{moves_of-before}
use Rattle.live_yard.proofs.Passing.{apart_rows}

-- The lines after number `left` are in the row of train i, which was at this place before them.
pub record IsFilled (lines : List Line) (before ways : List Passed) (i now at left : ℕ) : Type 0 where
  pub within : left ≤ length lines
  pub few : at ≤ now
  pub later : moves_of i (drop left lines) + at ≡ now
  pub filled : (k : ℕ) → at < k → k ≤ now → IsPassed lines now i k (get_or ways (i * 128 + k) (Begun 0))
  pub others : KeepsOtherRows before i ways

-- a line that isn't a move of the train
pub filled_other : (lines : List Line) (before ways : List Passed) (i now at left : ℕ) (d : Line)
    → IsFilled lines before ways i now at left → 0 < left → moves i (get_or lines (left - 1) d) ≡ false
    → IsFilled lines before ways i now at (left - 1)
filled_other lines before ways i now at left d is some not =
    let none : ◌≡◌ {A = ℕ} (cond (moves i (get_or lines (left - 1) d)) 1 0) 0 = ap (λ (b : Bool). cond b 1 0) not in
    record {
      within = omega (arith, is.within);
      few = is.few;
      later = omega (arith, is.later, none, moves_of-before i lines left d some is.within);
      filled = is.filled;
      others = is.others;
    }

-- a move of the train
pub filled_move : (lines : List Line) (before ways : List Passed) (i now at left : ℕ) (d : Line)
    → IsFilled lines before ways i now at left → 0 < left → moves i (get_or lines (left - 1) d) ≡ true → at ≢ 0
    → now < 128 → i * 128 + 128 ≤ length ways
    → IsFilled lines before (slice_set ways (i * 128 + at) (Granted left)) i now (at - 1) (left - 1)
filled_move lines before ways i now at left d is some move past few room =
    let one : ◌≡◌ {A = ℕ} (cond (moves i (get_or lines (left - 1) d)) 1 0) 1 = ap (λ (b : Bool). cond b 1 0) move in
    let last = i * 128 + at in
    record {
      within = omega (arith, is.within);
      few = omega (arith, is.few);
      later = omega (arith, is.later, one, moves_of-before i lines left d some is.within);
      filled = λ k later upto. elim (cases_eq k at) [
        | inl same ↦
            let there : get_or (slice_set ways last (Granted left)) (i * 128 + k) (Begun 0) ≡ Granted left =
            ap (λ (n : ℕ). get_or (slice_set ways last (Granted left)) (i * 128 + n) (Begun 0)) same
            ∙ get_or-set_same ways last (Granted left) (Begun 0) (omega (arith, is.few)) in
            subst (λ (how : Passed). IsPassed lines now i k how) (sym there) (record {
              counted = some;
              within = is.within;
              line = (
                get_or lines (left - 1) d,
                slice_get-get_or lines (left - 1) d (omega (arith, is.within)),
                move,
              );
              later = omega (arith, is.later, same);
            })
        | inr other ↦
            let there : get_or (slice_set ways last (Granted left)) (i * 128 + k) (Begun 0)
            ≡ get_or ways (i * 128 + k) (Begun 0) =
            get_or-set_other ways last (i * 128 + k) (Granted left) (Begun 0) (λ same. other (omega arith)) in
            subst (λ (how : Passed). IsPassed lines now i k how) (sym there)
            (is.filled k (omega (arith, later, other)) upto)
      ];
      others = λ j k ne low.
          get_or-set_other ways last (j * 128 + k) (Granted left) (Begun 0)
          (apart_rows i j k at low (omega (arith, is.few)) ne)
          ∙ is.others j k ne low;
    }

-- the same row and place, in other words
pub filled_as : (lines : List Line) (before ways next : List Passed) (i now at to left : ℕ) → next ≡ ways → to ≡ at
    → IsFilled lines before ways i now at left → IsFilled lines before next i now to left
filled_as lines before ways next i now at to left ways_is at_is is =
    subst (λ (ws : List Passed). IsFilled lines before ws i now to left) (sym ways_is)
    (subst (λ (n : ℕ). IsFilled lines before ways i now n left) (sym at_is) is)
