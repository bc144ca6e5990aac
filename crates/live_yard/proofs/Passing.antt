-- The index of how trains came to places, after one more line.
use Rattle.std.proofs.Common.{◌≡◌, ◌≢◌, ℕ, ◌+◌, ◌-◌, ◌*◌, ◌<◌, ◌≤◌, List, [], ◌∷◌, ◌++◌, length, cond, drop, get_or, Some}
use Rattle.std.proofs.Common.{Bool, true, false, sym, ap, subst, ◌∙◌, arith, length-append, inl, inr}
use Rattle.std.specs.Prelude.{slice_get, slice_set}
use Rattle.std.proofs.lemmas.Bool.{cases_eq}
use Rattle.std.proofs.lemmas.List.{length-set, get_or-set_same, get_or-set_other, get_or_append_left, drop-append-le}
use Rattle.std.proofs.lemmas.List.Sums.{sum_by-append}
use Rattle.std.proofs.lemmas.Option.{slice_get_within, slice_get-get_or, get_or_from_slice_get}
use Rattle.std.proofs.Math.Seq.{drop-append-add, get_or-append_seam}
use Rattle.rail_model.specs.declared.types.Line.{Line}
use Rattle.rail_model.specs.Move.{advance}
use Rattle.rail_model.specs.Table.{place}
use Rattle.rail_model.proofs.Moves.{place_moved, place_other}
use Rattle.live_yard.specs.GrantedLines.{IsPassed, WasGranted, moves, moves_of}
use Rattle.live_yard.specs.PassedPlaces.{ArePassed}
use Rattle.live_yard.specs.declared.granted_lines.Passed.{Passed}
use Rattle.live_yard.specs.declared.granted_lines.Passed.TheVariants.{Begun, Granted}

-- rows have no index in common
pub apart_rows : (i j k m : ℕ) → k < 128 → m < 128 → j ≢ i → j * 128 + k ≢ i * 128 + m
apart_rows i j k m few small other = λ same. other (omega arith)

-- how many moves a train has with one more line
moves_of-more : (i : ℕ) (lines : List Line) (l : Line)
    → moves_of i (lines ++ l ∷ []) ≡ moves_of i lines + cond (moves i l) 1 0
moves_of-more i lines l = omega (arith, sum_by-append (λ (m : Line). cond (moves i m) 1 0) lines (l ∷ []))

-- the lines before are as they were
pub before-more : (lines : List Line) (l m : Line) (n : ℕ) → slice_get lines n ≡ Some m
    → slice_get (lines ++ l ∷ []) n ≡ Some m
before-more lines l m n at =
    let within = slice_get_within lines n m at in
    let longer : n < length (lines ++ l ∷ []) = omega (arith, length-append lines (l ∷ []), within) in
    slice_get-get_or (lines ++ l ∷ []) n m longer
    ∙ ap (λ (x : Line). Some x) (get_or_append_left lines (l ∷ []) m n within ∙ get_or_from_slice_get lines n m m at)

-- how a train came to a place stays with one more line
passed-more : (lines : List Line) (l : Line) (at next i k : ℕ) (how : Passed) → at + cond (moves i l) 1 0 ≡ next
    → IsPassed lines at i k how → IsPassed (lines ++ l ∷ []) next i k how
passed-more lines l at next i k (Granted n) on was = record {
  counted = was.counted;
  within = omega (arith, length-append lines (l ∷ []), was.within);
  line = (was.line.0, before-more lines l was.line.0 (n - 1) was.line.1, was.line.2);
  later =
      let longer = ap (λ (ls : List Line). moves_of i ls) (drop-append-le n lines (l ∷ []) was.within) in
      omega (arith, longer, moves_of-more i (drop n lines) l, was.later, on);
}
passed-more lines l at next i k (Begun start) on was = (omega (arith, moves_of-more i lines l, was.0, on), was.1)

-- the line that was added
pub last_line : (lines : List Line) (l : Line) → slice_get (lines ++ l ∷ []) (length lines + 1 - 1) ≡ Some l
last_line lines l =
    let last : length lines + 1 - 1 ≡ length lines = omega arith in
    let longer : length lines + 1 - 1 < length (lines ++ l ∷ []) = omega (arith, length-append lines (l ∷ [])) in
    slice_get-get_or (lines ++ l ∷ []) (length lines + 1 - 1) l longer
    ∙ ap (λ (x : Line). Some x)
    (ap (λ (n : ℕ). get_or (lines ++ l ∷ []) n l) last ∙ get_or-append_seam lines l [] l)

-- the last line, where it is a move of the train, granted it the place where it is then
granted-last : (lines : List Line) (l : Line) (i k : ℕ) → moves i l ≡ true
    → WasGranted (lines ++ l ∷ []) k i k (length lines + 1)
granted-last lines l i k is = record {
  counted = omega arith;
  within = omega (arith, length-append lines (l ∷ []));
  line = (l, last_line lines l, is);
  later =
      let none : drop (length lines + 1) (lines ++ l ∷ []) ≡ [] = drop-append-add lines (l ∷ []) 1 in
      omega (arith, ap (λ (ls : List Line). moves_of i ls) none);
}

-- the index after train i was granted its next place by the line that comes next
abbrev pub with_grant : List Line → List ℕ → List Passed → ℕ → List Passed
with_grant lines p ways i = slice_set ways (i * 128 + (place p i + 1)) (Granted (length lines + 1))

-- of the train that has moved
mover : (lines : List Line) (p : List ℕ) (ways : List Passed) (i : ℕ) (l : Line) → ArePassed lines p ways
    → i < length p → place p i + 1 < 128 → moves i l ≡ true → (k : ℕ) → k < 128 → k ≤ place (advance p i) i
    → IsPassed (lines ++ l ∷ []) (place (advance p i) i) i k
    (get_or (with_grant lines p ways i) (i * 128 + k) (Begun 0))
mover lines p ways i l are within room is k few low =
    let at = place p i in
    let there : place (advance p i) i ≡ at + 1 = place_moved p i within in
    let one : ◌≡◌ {A = ℕ} (cond (moves i l) 1 0) 1 = ap (λ (b : Bool). cond b 1 0) is in
    subst (λ (n : ℕ). IsPassed (lines ++ l ∷ []) n i k (get_or (with_grant lines p ways i) (i * 128 + k) (Begun 0)))
    (sym there)
    (elim (cases_eq k (at + 1)) [
      | inl new ↦
          let entry : get_or (with_grant lines p ways i) (i * 128 + k) (Begun 0) ≡ Granted (length lines + 1) =
          ap (λ (n : ℕ). get_or (with_grant lines p ways i) (i * 128 + n) (Begun 0)) new
          ∙ get_or-set_same ways (i * 128 + (at + 1)) (Granted (length lines + 1)) (Begun 0)
          (omega (arith, are.size, within, room)) in
          subst (λ (how : Passed). IsPassed (lines ++ l ∷ []) (at + 1) i k how) (sym entry)
          (subst (λ (n : ℕ). WasGranted (lines ++ l ∷ []) n i k (length lines + 1)) new (granted-last lines l i k is))
      | inr old ↦
          let entry : get_or (with_grant lines p ways i) (i * 128 + k) (Begun 0) ≡ get_or ways (i * 128 + k) (Begun 0) =
          get_or-set_other ways (i * 128 + (at + 1)) (i * 128 + k) (Granted (length lines + 1)) (Begun 0)
          (λ same. old (omega arith)) in
          subst (λ (how : Passed). IsPassed (lines ++ l ∷ []) (at + 1) i k how) (sym entry)
          (passed-more lines l at (at + 1) i k (get_or ways (i * 128 + k) (Begun 0)) (omega (arith, one))
          (are.rows i within k few (omega (arith, low, there, old))))
    ])

-- of each other train
other_train : (lines : List Line) (p : List ℕ) (ways : List Passed) (i j : ℕ) (l : Line) → ArePassed lines p ways
    → j < length p → place p i + 1 < 128 → j ≢ i → moves j l ≡ false → (k : ℕ) → k < 128
    → k ≤ place (advance p i) j
    → IsPassed (lines ++ l ∷ []) (place (advance p i) j) j k
    (get_or (with_grant lines p ways i) (j * 128 + k) (Begun 0))
other_train lines p ways i j l are within room other none k few low =
    let there : place (advance p i) j ≡ place p j = place_other p i j other in
    let zero : ◌≡◌ {A = ℕ} (cond (moves j l) 1 0) 0 = ap (λ (b : Bool). cond b 1 0) none in
    let entry : get_or (with_grant lines p ways i) (j * 128 + k) (Begun 0) ≡ get_or ways (j * 128 + k) (Begun 0) =
    get_or-set_other ways (i * 128 + (place p i + 1)) (j * 128 + k) (Granted (length lines + 1)) (Begun 0)
    (apart_rows i j k (place p i + 1) few room other) in
    subst (λ (how : Passed). IsPassed (lines ++ l ∷ []) (place (advance p i) j) j k how) (sym entry)
    (passed-more lines l (place p j) (place (advance p i) j) j k (get_or ways (j * 128 + k) (Begun 0))
    (omega (arith, zero, there)) (are.rows j within k few (omega (arith, low, there))))

-- a train was granted its next place
pub are_passed_moved : (lines : List Line) (p : List ℕ) (ways : List Passed) (i : ℕ) (l : Line) → ArePassed lines p ways
    → i < length p → place p i + 1 < 128 → moves i l ≡ true → ((j : ℕ) → j ≢ i → moves j l ≡ false)
    → ArePassed (lines ++ l ∷ []) (advance p i) (with_grant lines p ways i)
are_passed_moved lines p ways i l are within room is others =
    let size = length-set p i (place p i + 1) in
    record {
      size = length-set ways (i * 128 + (place p i + 1)) (Granted (length lines + 1)) ∙ are.size
          ∙ ap (λ (n : ℕ). n * 128) (sym size);
      rows = λ j there k few. elim (cases_eq j i) [
        | inl same ↦
            subst (λ (m : ℕ). k ≤ place (advance p i) m
            → IsPassed (lines ++ l ∷ []) (place (advance p i) m) m k
            (get_or (with_grant lines p ways i) (m * 128 + k) (Begun 0))) (sym same)
            (mover lines p ways i l are within room is k few)
        | inr other ↦ other_train lines p ways i j l are (omega (arith, there, size)) room other (others j other) k few
      ];
    }

-- a line that is no move
pub are_passed_same : (lines : List Line) (p : List ℕ) (ways : List Passed) (l : Line) → ArePassed lines p ways
    → ((j : ℕ) → moves j l ≡ false) → ArePassed (lines ++ l ∷ []) p ways
are_passed_same lines p ways l are none = record {
  size = are.size;
  rows = λ i within k few low.
      passed-more lines l (place p i) (place p i) i k (get_or ways (i * 128 + k) (Begun 0))
      (let one : ◌≡◌ {A = ℕ} (cond (moves i l) 1 0) 0 = ap (λ (b : Bool). cond b 1 0) (none i) in omega (arith, one))
      (are.rows i within k few low);
}
