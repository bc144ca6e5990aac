-- Rows are the points that trains come to, each once.
use Rattle.std.proofs.Common.{◌≡◌, ◌∙◌, ℕ, ◌+◌, ◌<◌, ◌≤◌, ◌==◌, List, [], ◌∷◌, ◌++◌, length, get_or, take, refl, sym, ap, subst, arith, inl, inr, Bool, true, false, IsPermutation}
use Rattle.std.specs.Prelude.{All, Contains, IfSome, Option, Some, None, cond, count_by, filter_map, option_to_list}
use Rattle.std.specs.List.{cons_option, list_any}
use Rattle.std.proofs.lemmas.Bool.Decides.{nat_tests}
use Rattle.std.proofs.lemmas.List.{length-take, take_all, take_more}
use Rattle.std.proofs.lemmas.List.Elements.{All-cons, All-contains, All-push, All-tail, Contains-append_cases, Contains-append_left}
use Rattle.std.proofs.lemmas.List.Sorted.{Contains-permutation, sum_by-IsPermutation}
use Rattle.std.proofs.lemmas.List.Sums.{sum_by-take-le, sum_by_push}
use Rattle.run_timetable.specs.declared.run.Run.{Run}
use Rattle.run_timetable.specs.declared.run.Step.{Step}
use Rattle.run_timetable.specs.Timetable.{start_of}
use Rattle.train_graph.specs.Rows.{Adds, HasRows, HasStarts, HasTargets, IsOnce, led_to}

-- the point of an option
option_all : (P : ℕ → Type 0) (point : Option ℕ) → IfSome point P → All P (option_to_list point)
option_all P None has = λ k d lt. absurd (omega (arith, lt))
option_all P (Some p) has = All-cons P p [] has (λ k d lt. absurd (omega (arith, lt)))

-- where the steps of a train lead
led_more : (P : ℕ → Type 0) (own : Bool) (to : Option ℕ) (rest : List ℕ) → IfSome to P → All P rest → All P (cons_option (cond own to None) rest)
led_more P true (Some p) rest has all = All-cons P p rest has all
led_more P true None rest has all = all
led_more P false to rest has all = all

led_all : (P : ℕ → Type 0) (i : ℕ) (steps : List Step) → All (λ s. IfSome s.to P) steps → All P (filter_map (led_to i) steps)
led_all P i [] all = λ k d lt. absurd (omega (arith, lt))
led_all P i (s ∷ steps) all =
    led_more P (s.train == i) s.to (filter_map (led_to i) steps) (all 0 s (omega arith)) (led_all P i steps (All-tail (λ s. IfSome s.to P) s steps all))

-- all points have rows, if there are few
pub rows_of_all : (run : Run) (found sorted rows : List ℕ) → HasStarts found run.starts.items → HasTargets found run.steps.items
    → IsPermutation found sorted → rows ≡ take 512 sorted → HasRows run rows
rows_of_all run found sorted rows starts targets moved made i p lt on few =
    let short : length sorted ≤ 512 = omega (arith, few, ap length made, length-take 512 sorted) in
    let begun : IfSome (start_of run.starts.items i) (Contains found) = starts i None (omega (arith, lt)) in
    subst (λ (points : List ℕ). Contains points p) (sym (made ∙ take_all 512 sorted short))
    (Contains-permutation found sorted p moved
    (elim (Contains-append_cases (option_to_list (start_of run.starts.items i)) (filter_map (led_to i) run.steps.items) p on) [
      | inl start ↦ All-contains (Contains found) (option_to_list (start_of run.starts.items i)) p (option_all (Contains found) (start_of run.starts.items i) begun) start
      | inr target ↦ All-contains (Contains found) (filter_map (led_to i) run.steps.items) p (led_all (Contains found) i run.steps.items targets) target
    ]))

-- and none has two
abbrev one_of : ℕ → ℕ → ℕ
one_of p row = cond (row == p) 1 0

pub once_of_all : (found sorted rows : List ℕ) → IsOnce found → IsPermutation found sorted → rows ≡ take 512 sorted → IsOnce rows
once_of_all found sorted rows once moved made p =
    subst (λ (points : List ℕ). count_by (λ row. row == p) points ≤ 1) (sym made)
    (omega (arith, once p, sum_by-IsPermutation (one_of p) found sorted moved, sum_by-take-le (one_of p) sorted 512))

-- a point that is added
not_counted : (test : ℕ → Bool) (points : List ℕ) → list_any test points ≡ false → count_by test points ≡ 0
not_counted test [] none = refl
not_counted test (q ∷ points) none = grind (arith, not_counted test points)

new_once : (points : List ℕ) (p q : ℕ) (same : Bool) → (p == q) ≡ same → list_any (λ r. r == p) points ≡ false → IsOnce points
    → count_by (λ r. r == q) (points ++ p ∷ []) ≤ 1
new_once points p q true is none once =
    let at : p ≡ q = grind (arith, nat_tests, is) in
    let zero = not_counted (λ r. r == q) points (subst (λ (n : ℕ). list_any (λ r. r == n) points ≡ false) at none) in
    let more = sum_by_push (one_of q) points p in
    let here : one_of q p ≡ 1 = ap (λ (b : Bool). cond b 1 0) is in
    omega (arith, zero, more, here)
new_once points p q false is none once =
    let more = sum_by_push (one_of q) points p in
    let here : one_of q p ≡ 0 = ap (λ (b : Bool). cond b 1 0) is in
    omega (arith, once q, more, here)

pub adds_new : (points : List ℕ) (p : ℕ) → list_any (λ q. q == p) points ≡ false → Adds points (points ++ p ∷ [])
adds_new points p none = record {
  kept = λ q there. Contains-append_left points (p ∷ []) q there;
  once = λ once q. new_once points p q (p == q) refl none once;
}

pub adds_both : (a b c : List ℕ) → Adds a b → Adds b c → Adds a c
adds_both a b c first second = record {
  kept = λ q there. second.kept q (first.kept q there);
  once = λ once. second.once (first.once once);
}

pub if_some_more : (before after : List ℕ) → Adds before after → (point : Option ℕ) → IfSome point (Contains before) → IfSome point (Contains after)
if_some_more before after adds None has = has
if_some_more before after adds (Some p) has = adds.kept p has

-- one more item whose point is there
pub all_more : {X : Type 0} (f : X → Option ℕ) (before after : List ℕ) (xs : List X) (k : ℕ) (d : X) → k < length xs → Adds before after
    → All (λ x. IfSome (f x) (Contains before)) (take k xs) → IfSome (f (get_or xs k d)) (Contains after)
    → All (λ x. IfSome (f x) (Contains after)) (take (k + 1) xs)
all_more {X} f before after xs k d lt adds all here =
    subst (λ (list : List X). All (λ x. IfSome (f x) (Contains after)) list) (sym (take_more xs k d lt))
    (All-push (λ x. IfSome (f x) (Contains after)) (take k xs) (get_or xs k d)
    (λ j e within. if_some_more before after adds (f (get_or (take k xs) j e)) (all j e within)) here)

pub all_whole : {X : Type 0} (P : X → Type 0) (xs : List X) (n : ℕ) → length xs ≤ n → All P (take n xs) → All P xs
all_whole {X} P xs n le all = subst (λ (list : List X). All P list) (take_all n xs le) all
