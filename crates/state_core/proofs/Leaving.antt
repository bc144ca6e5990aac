-- What is left of a group without some of its trains, and which cores stay within it.
use Rattle.std.proofs.Common.{◌≡◌, ◌==◌, ℕ, ◌+◌, ◌<◌, Bool, true, false, true≢false, not, ◌&&◌, ◌||◌, ℤ, pos, ◌+ℤ◌, ◌≤ℤ◌, ◌<ℤ◌, List, [], ◌∷◌, length, cond, refl, arith, ap, ◌∙◌, inl, inr, subst, sym}
use Rattle.std.specs.Prelude.{IsTrue, filter, if◌then◌else◌}
use Rattle.std.specs.List.{list_any}
use Rattle.std.proofs.lemmas.Bool.{cases_Bool, or_cases, or_left, or_right, eqb-true, eq-eqb, ne_eqb, lt-ltb}
use Rattle.std.proofs.lemmas.Int.{ints}
use Rattle.std.proofs.lemmas.List.Sums.{length-filter, count_by-le-length}
use Rattle.rail_model.specs.Table.{Table, Connection, IsTable, trains, limit, change, place}
use Rattle.rail_model.specs.Checks.{below}
use Rattle.rail_model.proofs.Found.{Among}
use Rattle.rail_model.proofs.Sums.{total_mono}
use Rattle.forbidden_states.proofs.Members.{filter-among, among-filter}
use Rattle.state_core.specs.Core.{has, count_within, IsKept, IsCore, is_unfinished, is_loose}
use Rattle.state_core.specs.Least.{IsWithin, HasNoCore, IsGreatestCore, IsNeeded}
use Rattle.state_core.specs.Trap.{IsPlaced}
use Rattle.state_core.proofs.Tests.{Decides-loose, IsLoose, both_true, some_below, core_is_tested}

-- ---- a group without a train

has_among : (g : List ℕ) (j : ℕ) → has g j ≡ true → Among g j
has_among [] j h = absurd (true≢false (sym h))
has_among (x ∷ xs) j h = elim (or_cases (x == j) (has xs j) h) [
  | inl e ↦ inl (eqb-true x j e)
  | inr later ↦ inr (has_among xs j later)
]

among_has : (g : List ℕ) (j : ℕ) → Among g j → has g j ≡ true
among_has [] j a = absurd a
among_has (x ∷ xs) j a = elim a [
  | inl e ↦ or_left (x == j) (has xs j) (eq-eqb x j e)
  | inr later ↦ or_right (x == j) (has xs j) (among_has xs j later)
]

-- the group without train i
abbrev pub others : ℕ → List ℕ → List ℕ
others i group = filter (λ j. not (j == i)) group

isn't : (i j : ℕ) → (j ≡ i → ⊥) → not (j == i) ≡ true
isn't i j other = rw (ne_eqb j i other) refl

pub others_keep : (group : List ℕ) (i j : ℕ) → (j ≡ i → ⊥) → has group j ≡ true → has (others i group) j ≡ true
others_keep group i j other member =
    among_has (others i group) j (among-filter (λ k. not (k == i)) group j (has_among group j member) (isn't i j other))

pub others_in : (group : List ℕ) (i j : ℕ) → has (others i group) j ≡ true → has group j ≡ true
others_in group i j member = among_has group j (filter-among (λ k. not (k == i)) group j (has_among (others i group) j member)).0

pub others_lack : (group : List ℕ) (i : ℕ) → has (others i group) i ≡ true → ⊥
others_lack group i member =
    let passes = (filter-among (λ k. not (k == i)) group i (has_among (others i group) i member)).1 in
    true≢false (sym passes ∙ ap not (eq-eqb i i refl))

pub others_fewer : (group : List ℕ) (i : ℕ) → has group i ≡ true → length (others i group) < length group
others_fewer [] i h = absurd (true≢false (sym h))
others_fewer (x ∷ xs) i h =
    (elim (x == i) as (λ b. (b || has xs i) ≡ true → length (cond (not b) (x ∷ others i xs) (others i xs)) < length (x ∷ xs)) [
      | true ↦ λ e. omega (arith, length-filter (λ k. not (k == i)) xs, count_by-le-length (λ k. not (k == i)) xs)
      | false ↦ λ e. (let rest : length (others i xs) < length xs = others_fewer xs i e in omega arith)
    ]) h

-- ---- a larger group keeps more

part_le : (a b : Bool) (z : ℤ) → pos 0 ≤ℤ z → (a ≡ true → b ≡ true) → (if a then z else pos 0) ≤ℤ (if b then z else pos 0)
part_le true true z low more = omega (arith, ints)
part_le true false z low more = absurd (true≢false (sym (more refl)))
part_le false true z low more = low
part_le false false z low more = omega (arith, ints)

module _ (T : Table) (p part group : List ℕ) (table : IsTable T) (placed : IsPlaced T p) (inside : IsWithin T part group) where
  counts_more : (s : ℕ) → s < length T.sections → count_within T part s p ≤ℤ count_within T group s p
  counts_more s s_in =
      total_mono _ _ (trains T) (λ j lt. part_le (has part j) (has group j) _
      ((table.sections s s_in).not_below j (place p j) lt (placed.in_range j lt)) (inside j lt))

  pub keeps_more : (i : ℕ) → IsKept T p part i → IsKept T p group i
  keeps_more i kept = elim kept [
    | inl w ↦ inl (w.0, inside w.0 w.2.0 w.1, w.2)
    | inr w ↦ elim w [
      | inl v ↦ (let more = counts_more v.0 v.1 in
          let over : pos (limit T v.0) <ℤ (count_within T part v.0 p +ℤ change T i v.0 (place p i + 1)) = v.3 in
          inr (inl (v.0, v.1, v.2, omega (arith, ints, more, over))))
      | inr v ↦ (let k : Connection = v.1 in
          inr (inr (v.0, k, v.2, v.3, v.4, v.5, inside k.other (table.connections v.0 k v.2).other v.6)))
    ]
  ]

  -- so a core within a group has none of the group's loose trains
  pub keeps_whole : (i : ℕ) → IsCore T p part → is_loose T p group i ≡ true → IsWithin T part (others i group)
  keeps_whole i core loose j lt member =
      let is_one : IsLoose T p group i = (Decides-loose T p group i).0 loose in
      others_keep group i j
      (λ e. is_one.1 (keeps_more i (core.kept i (subst (λ k. k < trains T) e lt) (subst (λ k. IsTrue (has part k)) e member) is_one.0.1)))
      (inside j lt member)

-- ---- the greatest core, and the least

pub greatest_from : (T : Table) (p group left : List ℕ) → IsWithin T left group
    → ((core : List ℕ) → IsCore T p core → IsWithin T core group → IsWithin T core left)
    → IsCore T p left → IsGreatestCore T p group left
greatest_from T p group left inside cores is_core = record { core = is_core; inside = inside; greatest = cores }

-- what a smaller group needs
pub needed_within : (T : Table) (p group left : List ℕ) (i : ℕ) → i < trains T → IsWithin T left group → IsNeeded T p group i → IsNeeded T p left i
needed_within T p group left i lt inside needed member part core within =
    needed (inside i lt member) part core (λ j lt_j m. inside j lt_j (within j lt_j m))

-- where no core does without a train, each core within has it
pub needed_by_all : (T : Table) (p core : List ℕ) (i : ℕ) → HasNoCore T p (others i core) → IsNeeded T p core i
needed_by_all T p core i none member part is_core within = elim (cases_Bool (has part i)) [
  | inl h ↦ h
  | inr lacks ↦ absurd (none part is_core (λ j lt m. others_keep core i j
      (λ e. true≢false (sym (subst (λ k. has part k ≡ true) e m) ∙ lacks)) (within j lt m)))
]

-- a train that isn't there isn't needed
pub needs_no_other : (T : Table) (p core left : List ℕ) (i : ℕ) → i < trains T → IsWithin T left (others i core) → IsNeeded T p left i
needs_no_other T p core left i lt inside member = absurd (others_lack core i (inside i lt member))

-- with a train that hasn't arrived, and none that is loose, what is left is a core
pub core_left : (T : Table) (p left : List ℕ) → list_any (λ i. has left i && is_unfinished T p i) (below (trains T)) ≡ true
    → list_any (is_loose T p left) (below (trains T)) ≡ false → IsCore T p left
core_left T p left some none = (core_is_tested T p left).0 (both_true _ _ some (ap not none))

-- without such a train, no core was within the group
pub no_core_left : (T : Table) (p group left : List ℕ) → list_any (λ i. has left i && is_unfinished T p i) (below (trains T)) ≡ false
    → ((core : List ℕ) → IsCore T p core → IsWithin T core group → IsWithin T core left) → HasNoCore T p group
no_core_left T p group left none cores part core inside =
    let u = core.unfinished in
    true≢false (sym (some_below (λ i. has left i && is_unfinished T p i) (trains T) u.0 u.1
    (both_true _ _ (cores part core inside u.0 u.1 u.2) (lt-ltb _ _ u.3))) ∙ none)

-- a loose train is one of the group
pub loose_member : (T : Table) (p group : List ℕ) (i : ℕ) → is_loose T p group i ≡ true → has group i ≡ true
loose_member T p group i loose = ((Decides-loose T p group i).0 loose).0.0
