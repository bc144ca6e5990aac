-- The steps of the loops: one more number, one more element, one section less.
use Rattle.std.proofs.Common.{◌≡◌, ℕ, zero, suc, ◌+◌, ◌<◌, ◌≤◌, Bool, true, false, List, [], ◌∷◌, ◌++◌, map, length, get_or, take, drop, Option, Some, None, refl, arith, ap, ◌∙◌, sym, cond, append-nil, length-append}
use Rattle.std.specs.Prelude.{All, filter, find, remove, slice_index_or}
use Rattle.std.specs.List.{position_from}
use Rattle.std.specs.Option.{option_or}
use Rattle.std.proofs.lemmas.List.{get_or_default, take_more, take-append-drop, map-append}
use Rattle.std.proofs.lemmas.List.Elements.{filter-append, All-filter}
use Rattle.std.proofs.lemmas.List.Folds.{find-append}
use Rattle.std.proofs.lemmas.List.FromFn.{get_or-range_with_len, length-range_with_len, get_or-map-range_with_len, length-map-range_with_len}
use Rattle.std.proofs.lemmas.List.Edits.{length-remove}
use Rattle.std.proofs.lemmas.Option.{same_Some}
use Rattle.rail_model.specs.declared.types.Ask.{Ask}
use Rattle.rail_model.specs.Table.{Table, trains}
use Rattle.rail_model.specs.Checks.{below, ask}
use Rattle.forbidden_states.specs.Forbid.{Stay}
use Rattle.forbidden_states.proofs.Growing.{below-next}
use Rattle.section_repair.specs.Core.{asks, is_drawn_in, widened, widened_times}
use Rattle.section_repair.specs.Joining.{joins, union, settled_in, settled}

-- ---- one more number

pub filter-more : (q : ℕ → Bool) (n : ℕ) → q n ≡ true → filter q (below (n + 1)) ≡ filter q (below n) ++ n ∷ []
filter-more q n h =
    ap (filter q) (below-next n) ∙ filter-append q (below n) (n ∷ [])
    ∙ ap (λ (b : Bool). filter q (below n) ++ cond b (n ∷ []) []) h

pub filter-skip : (q : ℕ → Bool) (n : ℕ) → q n ≡ false → filter q (below (n + 1)) ≡ filter q (below n)
filter-skip q n h =
    ap (filter q) (below-next n) ∙ filter-append q (below n) (n ∷ [])
    ∙ ap (λ (b : Bool). filter q (below n) ++ cond b (n ∷ []) []) h ∙ append-nil (filter q (below n))

pub map-more : {X : Type 0} (f : ℕ → X) (q : ℕ → Bool) (n : ℕ) → q n ≡ true
    → map f (filter q (below (n + 1))) ≡ map f (filter q (below n)) ++ f n ∷ []
map-more f q n h = ap (map f) (filter-more q n h) ∙ map-append f (filter q (below n)) (n ∷ [])

pub map-skip : {X : Type 0} (f : ℕ → X) (q : ℕ → Bool) (n : ℕ) → q n ≡ false
    → map f (filter q (below (n + 1))) ≡ map f (filter q (below n))
map-skip f q n h = ap (map f) (filter-skip q n h)

-- ---- groups of trains

below-all : (n : ℕ) → All (λ i. i < n) (below n)
below-all n k d l =
    let e : length (below n) ≡ n = length-range_with_len 0 n in
    let g : get_or (below n) k d ≡ 0 + k = get_or-range_with_len 0 n k d (omega arith) in
    omega arith

pub widened-below : (T : Table) (p group : List ℕ) → All (λ i. i < trains T) (widened T p group)
widened-below T p group = All-filter (is_drawn_in T p group) (λ i. i < trains T) (below (trains T)) (below-all (trains T))

pub asks-length : (T : Table) (p : List ℕ) (list : List Ask) → list ≡ asks T p → length list ≡ trains T
asks-length T p list e = ap (λ (l : List Ask). length l) e ∙ length-map-range_with_len (ask T p) 0 (trains T)

pub asks-at : (T : Table) (p : List ℕ) (list : List Ask) (i : ℕ) (d : Ask) → list ≡ asks T p → i < trains T → slice_index_or list i d ≡ ask T p i
asks-at T p list i d e l = ap (λ (v : List Ask). slice_index_or v i d) e ∙ get_or-map-range_with_len (ask T p) 0 (trains T) i i d l (omega arith)

-- a group that widening leaves as it is stays so
pub widened-same : (T : Table) (p : List ℕ) (n : ℕ) (group : List ℕ) → widened T p group ≡ group → widened_times T p n group ≡ group
widened-same T p zero group e = refl
widened-same T p (suc n) group e = ap (widened_times T p n) e ∙ widened-same T p n group e

pub widened-next : (T : Table) (p : List ℕ) (n m : ℕ) (group : List ℕ) → n ≡ suc m → widened_times T p n group ≡ widened_times T p m (widened T p group)
widened-next T p n m group e = ap (λ v. widened_times T p v group) e

-- ---- the first element that passes

take-find : {X : Type 0} (q : X → Bool) (xs : List X) (i : ℕ) (x : X) → i < length xs → x ≡ get_or xs i x → find q (take i xs) ≡ None
    → find q (take (i + 1) xs) ≡ cond (q x) (Some x) None
take-find q xs i x l e h =
    ap (find q) (take_more xs i x l ∙ ap (λ v. take i xs ++ v ∷ []) (sym e)) ∙ find-append q (take i xs) (x ∷ [])
    ∙ ap (λ o. option_or o (cond (q x) (Some x) None)) h

pub none-next : {X : Type 0} (q : X → Bool) (xs : List X) (i : ℕ) (x : X) → i < length xs → x ≡ get_or xs i x → find q (take i xs) ≡ None → q x ≡ false
    → find q (take (i + 1) xs) ≡ None
none-next q xs i x l e h f = take-find q xs i x l e h ∙ ap (λ (b : Bool). cond b (Some x) None) f

pub found-next : {X : Type 0} (q : X → Bool) (xs : List X) (i : ℕ) (x : X) → i < length xs → x ≡ get_or xs i x → find q (take i xs) ≡ None → q x ≡ true
    → find q xs ≡ Some x
found-next q xs i x l e h f =
    ap (find q) (sym (take-append-drop (i + 1) xs)) ∙ find-append q (take (i + 1) xs) (drop (i + 1) xs)
    ∙ ap (λ o. option_or o (find q (drop (i + 1) xs))) (take-find q xs i x l e h ∙ ap (λ (b : Bool). cond b (Some x) None) f)

-- ---- one section less

position-below : {X : Type 0} (q : X → Bool) (xs : List X) (j k : ℕ) → position_from q j xs ≡ Some k → k < j + length xs
position-below q [] j k h = cc
position-below q (x ∷ xs) j k h =
    (elim (q x) as (λ b. cond b (Some j) (position_from q (j + 1) xs) ≡ Some k → k < j + length (x ∷ xs)) [
      | true ↦ λ e. let s : j ≡ k = same_Some j k e in omega arith
      | false ↦ λ e. let r : k < j + 1 + length xs = position-below q xs (j + 1) k e in omega arith
    ]) h

pub partner-below : (others : List (List Stay)) (b : List Stay) (k : ℕ) → position_from (λ a. joins a b) 0 others ≡ Some k → k < length others
partner-below others b k h = let r = position-below (λ a. joins a b) others 0 k h in omega arith

settled-some : (n m : ℕ) (others : List (List Stay)) (b : List Stay) (k : ℕ) → n ≡ suc m → position_from (λ a. joins a b) 0 others ≡ Some k
    → settled_in n others b ≡ settled_in m (remove others k) (union (slice_index_or others k []) b)
settled-some n m others b k e h = ap (λ v. settled_in v others b) e ∙ ap (λ (o : Option ℕ). elim o as (λ v. List (List Stay)) [
  | None ↦ others ++ b ∷ []
  | Some j ↦ settled_in m (remove others j) (union (slice_index_or others j []) b)
]) h

settled-joined : (others : List (List Stay)) (b : List Stay) (k : ℕ) → position_from (λ a. joins a b) 0 others ≡ Some k
    → settled others b ≡ settled (remove others k) (union (slice_index_or others k []) b)
settled-joined others b k h =
    let l : k < length others = partner-below others b k h in
    let r : length (remove others k) + 1 ≡ length others = length-remove others k l in
    settled-some (length others) (length (remove others k)) others b k (omega arith) h

pub settled-taken : (others : List (List Stay)) (b other : List Stay) (k : ℕ) → position_from (λ a. joins a b) 0 others ≡ Some k
    → other ≡ slice_index_or others k other → settled others b ≡ settled (remove others k) (union other b)
settled-taken others b other k h e =
    settled-joined others b k h
    ∙ ap (λ v. settled (remove others k) (union v b)) (sym (e ∙ get_or_default others k other [] (partner-below others b k h)))

-- ---- the number of sections

one-more : (others : List (List Stay)) (b : List Stay) → length (others ++ b ∷ []) ≡ length others + 1
one-more others b = length-append others (b ∷ [])

pub settled-length : (n : ℕ) (others : List (List Stay)) (b : List Stay) → length (settled_in n others b) ≤ length others + 1
settled-length zero others b = omega (arith, one-more others b)
settled-length (suc n) others b =
    (elim (position_from (λ a. joins a b) 0 others) as (λ o. position_from (λ a. joins a b) 0 others ≡ o → length (elim o as (λ v. List (List Stay)) [
      | None ↦ others ++ b ∷ []
      | Some j ↦ settled_in n (remove others j) (union (slice_index_or others j []) b)
    ]) ≤ length others + 1) [
      | None ↦ λ e. omega (arith, one-more others b)
      | Some k ↦ λ e.
          let l : k < length others = partner-below others b k e in
          let r : length (remove others k) + 1 ≡ length others = length-remove others k l in
          omega (arith, settled-length n (remove others k) (union (slice_index_or others k []) b))
    ]) refl
