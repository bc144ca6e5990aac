-- The first that passes a test, and the keeper of a train.
use Rattle.std.proofs.Common.{◌≡◌, ℕ, zero, suc, ◌+◌, ◌<◌, ◌≤◌, Bool, true, false, ◌||◌, ◌&&◌, ◌∙◌, List, [], ◌∷◌, length, Option, Some, None, take, cond, refl, arith, subst, sym, inl, inr}
use Rattle.std.specs.Prelude.{find, option_map, slice_get}
use Rattle.std.specs.Option.{is_some, option_or}
use Rattle.std.specs.List.{list_any, range_with_len}
use Rattle.std.proofs.lemmas.Bool.{cases_eq}
use Rattle.std.proofs.lemmas.Option.{none-some, same_Some}
use Rattle.rail_model.specs.Table.{Table, Connection as Held, trains}
use Rattle.rail_model.specs.Checks.{below, blocks, is_held_by}
use Rattle.forbidden_states.proofs.Members.{none-found, below-among}
use Rattle.state_core.specs.declared.keepers.Keeper.{Keeper}
use Rattle.state_core.specs.declared.keepers.Keeper.TheVariants.{Train, Section, Connection}
use Rattle.state_core.specs.Core.{has, shuts, is_kept, is_blocked_within, is_shut_within, is_held_within}
use Rattle.state_core.specs.Keeper.{blocker, full_section, holding, keeper}

first_in : (q : ℕ → Bool) (n a k : ℕ) → a ≤ k → k < a + n → q k ≡ true → ((j : ℕ) → a ≤ j → j < k → q j ≡ false) →
    find q (range_with_len a n) ≡ Some k
first_in q zero a k low high here before = absurd (omega arith)
first_in q (suc n) a k low high here before = elim (cases_eq k a) [
  | inl e ↦ subst (λ j. cond (q j) (Some j) (find q (range_with_len (a + 1) n)) ≡ Some k) e (rw here refl)
  | inr away ↦ rw (before a (omega arith) (omega arith))
      (first_in q n (a + 1) k (omega arith) (omega arith) here (λ j more lt. before j (omega arith) lt))
]

-- the first number below n that passes
pub first_below : (q : ℕ → Bool) (n k : ℕ) → k < n → q k ≡ true → ((j : ℕ) → j < k → q j ≡ false) → find q (below n) ≡ Some k
first_below q n k lt here before = first_in q n 0 k (omega arith) (omega arith) here (λ j low more. before j more)

-- where none passes
pub none_found_below : (q : ℕ → Bool) (n : ℕ) → ((j : ℕ) → j < n → q j ≡ false) → find q (below n) ≡ None
none_found_below q n none = none-found q (below n) (λ j a. none j (below-among n j a))

-- the element of a list that passes, where none before it does
pub first_at : {X : Type 0} (q : X → Bool) (xs : List X) (k : ℕ) (x : X) → slice_get xs k ≡ Some x → find q (take k xs) ≡ None → q x ≡ true
    → find q xs ≡ Some x
first_at q [] k x there none here = absurd (none-some x there)
first_at q (y ∷ ys) zero x there none here =
    let same : y ≡ x = same_Some y x there in
    subst (λ v. q v ≡ true → cond (q y) (Some y) (find q ys) ≡ Some x) same (λ h. rw h there) here
first_at q (y ∷ ys) (suc k) x there none here =
    (elim (q y) as (λ b. cond b (Some y) (find q (take k ys)) ≡ None → cond b (Some y) (find q ys) ≡ Some x) [
      | true ↦ λ e. absurd (none-some y (sym e))
      | false ↦ λ e. first_at q ys k x there e here
    ]) none

longer : {X : Type 0} (q : X → Bool) (xs : List X) (k : ℕ) (x : X) → slice_get xs k ≡ Some x → find q (take k xs) ≡ None → q x ≡ false →
    find q (take (suc k) xs) ≡ None
longer q [] k x there none fails = absurd (none-some x there)
longer q (y ∷ ys) zero x there none fails =
    let same : y ≡ x = same_Some y x there in
    subst (λ v. cond (q v) (Some v) None ≡ None) (sym same) (rw fails refl)
longer q (y ∷ ys) (suc k) x there none fails =
    (elim (q y) as (λ b. cond b (Some y) (find q (take k ys)) ≡ None → cond b (Some y) (find q (take (suc k) ys)) ≡ None) [
      | true ↦ λ e. e
      | false ↦ λ e. longer q ys k x there e fails
    ]) none

-- one element more that doesn't pass
pub none_longer : {X : Type 0} (q : X → Bool) (xs : List X) (k : ℕ) (x : X) → slice_get xs k ≡ Some x → find q (take k xs) ≡ None
    → q x ≡ false → find q (take (k + 1) xs) ≡ None
none_longer q xs k x there none fails =
    let one : suc k ≡ k + 1 = omega arith in
    subst (λ n. find q (take n xs) ≡ None) one (longer q xs k x there none fails)

-- one is found if any passes
found_any : {X : Type 0} (q : X → Bool) (xs : List X) → is_some (find q xs) ≡ list_any q xs
found_any q [] = refl
found_any q (x ∷ xs) = elim (q x) as (λ b. is_some (cond b (Some x) (find q xs)) ≡ (b || list_any q xs)) [
  | true ↦ refl
  | false ↦ found_any q xs
]

either_found : {X Y : Type 0} (f : X → Y) (one : Option X) (other : Option Y) →
    is_some (option_or (option_map f one) other) ≡ (is_some one || is_some other)
either_found f (Some x) other = refl
either_found f None other = refl

map_found : {X Y : Type 0} (f : X → Y) (one : Option X) → is_some (option_map f one) ≡ is_some one
map_found f (Some x) = refl
map_found f None = refl

both_or : (a b c d : Bool) → a ≡ b → c ≡ d → (a || c) ≡ (b || d)
both_or a b c d e f = rw (e, f) refl

-- a train is kept if it has a keeper
pub kept_by_keeper : (T : Table) (p group : List ℕ) (i : ℕ) → is_some (keeper T p group i) ≡ is_kept T p group i
kept_by_keeper T p group i =
    let train = found_any (λ j. has group j && blocks T p i j) (below (trains T)) in
    let section = found_any (shuts T p group i) (below (length T.sections)) in
    let connection = found_any (λ k. is_held_by p i k && has group k.other) T.connections in
    let by_connection : Option Keeper = option_map (λ k. Connection k.other k.reached) (holding T p group i) in
    let later = either_found Section (full_section T p group i) by_connection in
    let by_later : Option Keeper = option_or (option_map Section (full_section T p group i)) by_connection in
    either_found Train (blocker T p group i) by_later
    ∙ both_or (is_some (blocker T p group i)) (is_blocked_within T p group i) (is_some by_later)
    (is_shut_within T p group i || is_held_within T p group i) train
    (later ∙ both_or (is_some (full_section T p group i)) (is_shut_within T p group i) (is_some by_connection)
    (is_held_within T p group i) section (map_found (λ (k : Held). Connection k.other k.reached) (holding T p group i) ∙ connection))
