-- Steps of loops that add a piece to a list for each number, or for each item.
use Rattle.std.proofs.Common.{◌≡◌, ℕ, zero, suc, ◌+◌, ◌<◌, List, [], ◌∷◌, ◌++◌, map, take, get_or, length, ap, ◌∙◌, sym, append_assoc, arith, ◌*◌, ◌%◌, append-nil}
use Rattle.std.specs.Prelude.{flat_map}
use Rattle.std.specs.List.{range_with_len}
use Rattle.std.proofs.lemmas.List.{take_more, map-append}
use Rattle.std.proofs.lemmas.List.FromFn.{map-range_with_len_more}
use Rattle.std.proofs.lemmas.Grind.{flat_map-append}
use Rattle.rail_model.specs.Checks.{below}
use Rattle.document_generator.specs.Draws.{draw, next_draw}
use Rattle.document_generator.specs.Pairs.{times_from, times_of}

-- one number more is below n + 1
pub map-below_next : {X : Type 0} (f : ℕ → X) (n : ℕ) → map f (below (n + 1)) ≡ map f (below n) ++ f n ∷ []
map-below_next f n = map-range_with_len_more f 0 n n (omega arith)

-- the next number is last
range_next : (n a : ℕ) → range_with_len a (n + 1) ≡ range_with_len a n ++ (a + n) ∷ []
range_next zero a = let e : a ≡ a + 0 = omega arith in ap (λ (k : ℕ). k ∷ []) e
range_next (suc n) a =
    let e : suc n + 1 ≡ suc (n + 1) = omega arith in
    let at : a + 1 + n ≡ a + suc n = omega arith in
    ap (range_with_len a) e ∙ ap (λ p. a ∷ p) (range_next n (a + 1)) ∙ ap (λ (k : ℕ). a ∷ range_with_len (a + 1) n ++ k ∷ []) at

-- draws after draws
pub draw-add : (n k x : ℕ) → draw (n + k) x ≡ draw n (draw k x)
draw-add zero k x = let e : 0 + k ≡ k = omega arith in ap (λ (m : ℕ). draw m x) e
draw-add (suc n) k x = let e : suc n + k ≡ suc (n + k) = omega arith in ap (λ (m : ℕ). draw m x) e ∙ ap next_draw (draw-add n k x)

-- the draws of a number of trains more
pub draw_trains : (trains steps x : ℕ) → draw steps (draw (trains * steps) x) ≡ draw ((trains + 1) * steps) x
draw_trains trains steps x =
    let e : steps + trains * steps ≡ (trains + 1) * steps = omega arith in
    sym (draw-add steps (trains * steps) x) ∙ ap (λ (m : ℕ). draw m x) e

-- one piece more, of the next number
pub pieces_next : {X : Type 0} (f : ℕ → List X) (n : ℕ) → flat_map f (below (n + 1)) ≡ flat_map f (below n) ++ f n
pieces_next f n =
    let e : below (n + 1) ≡ below n ++ n ∷ [] = let at : 0 + n ≡ n = omega arith in range_next n 0 ∙ ap (λ (k : ℕ). below n ++ k ∷ []) at in
    ap (flat_map f) e ∙ flat_map-append f (below n) (n ∷ []) ∙ ap (λ p. flat_map f (below n) ++ p) (append-nil (f n))

-- one piece more, of the next item
pub pieces_take : {X Y : Type 0} (f : X → List Y) (xs : List X) (k : ℕ) (x : X) → k < length xs → x ≡ get_or xs k x →
    flat_map f (take (k + 1) xs) ≡ flat_map f (take k xs) ++ f x
pieces_take f xs k x l e =
    ap (flat_map f) (take_more xs k x l)
    ∙ flat_map-append f (take k xs) (get_or xs k x ∷ [])
    ∙ ap (λ p. flat_map f (take k xs) ++ p) (append-nil (f (get_or xs k x)) ∙ ap f (sym e))

-- a list that has grown by the next piece
pub grown : {X : Type 0} (f : ℕ → List X) (n : ℕ) (start found new : List X) → found ≡ start ++ flat_map f (below n) → new ≡ found ++ f n →
    new ≡ start ++ flat_map f (below (n + 1))
grown f n start found new was pushed =
    pushed ∙ ap (λ p. p ++ f n) was ∙ append_assoc start (flat_map f (below n)) (f n) ∙ ap (λ p. start ++ p) (sym (pieces_next f n))

-- the same, over items
pub grown_take : {X Y : Type 0} (f : X → List Y) (xs : List X) (k : ℕ) (x : X) (found new : List Y) → k < length xs → x ≡ get_or xs k x →
    found ≡ flat_map f (take k xs) → new ≡ found ++ f x → new ≡ flat_map f (take (k + 1) xs)
grown_take f xs k x found new l at was pushed = pushed ∙ ap (λ p. p ++ f x) was ∙ sym (pieces_take f xs k x l at)

-- a list that has grown by the value at the next number
pub listed_next : {X : Type 0} (f : ℕ → X) (n : ℕ) (found new : List X) (x : X) → found ≡ map f (below n) → x ≡ f n → new ≡ found ++ x ∷ [] →
    new ≡ map f (below (n + 1))
listed_next f n found new x was value pushed =
    pushed ∙ ap (λ p. p ++ x ∷ []) was ∙ ap (λ y. map f (below n) ++ y ∷ []) value ∙ sym (map-below_next f n)

-- two more items in a list of pieces of two, each seen by s
pub two_more : {X : Type 0} (s : X → List ℕ) (f : ℕ → List (List ℕ)) (n : ℕ) (p q : List ℕ) (a b : X) (found new last : List X) →
    map s found ≡ flat_map f (below n) → f n ≡ p ∷ q ∷ [] → s a ≡ p → s b ≡ q → new ≡ found ++ a ∷ [] → last ≡ new ++ b ∷ [] →
    map s last ≡ flat_map f (below (n + 1))
two_more s f n p q a b found new last was piece one other first second =
    let e1 : map s new ≡ map s found ++ s a ∷ [] = ap (map s) first ∙ map-append s found (a ∷ []) in
    let e2 : map s last ≡ map s new ++ s b ∷ [] = ap (map s) second ∙ map-append s new (b ∷ []) in
    let next = pieces_next f n in
    let split = append_assoc (map s found) (s a ∷ []) (s b ∷ []) in
    cc

-- the next draw
pub draw_next : (k x : ℕ) → draw (k + 1) x ≡ next_draw (draw k x)
draw_next k x = let e : k + 1 ≡ suc k = omega arith in ap (λ (m : ℕ). draw m x) e

-- one travel time more
pub time_next : (k x0 x d : ℕ) (old new : List ℕ) → old ≡ times_from k x0 → x ≡ draw k x0 → d ≡ next_draw x → new ≡ old ++ (1 + d % 9) ∷ [] →
    new ≡ times_from (k + 1) x0
time_next k x0 x d old new was drawn next pushed =
    let e = map-below_next (λ (m : ℕ). 1 + draw (m + 1) x0 % 9) k in let s = draw_next k x0 in cc

-- one more train's travel times
pub train_next : (k steps x0 x : ℕ) (t : List ℕ) (old new : List (List ℕ)) → old ≡ times_of k steps x0 → x ≡ draw (k * steps) x0 →
    t ≡ times_from steps x → new ≡ old ++ t ∷ [] → new ≡ times_of (k + 1) steps x0
train_next k steps x0 x t old new was drawn times pushed =
    let e = map-below_next (λ (m : ℕ). times_from steps (draw (m * steps) x0)) k in cc

-- what is drawn last then
pub drawn_next : (k steps x0 x y : ℕ) → x ≡ draw (k * steps) x0 → y ≡ draw steps x → y ≡ draw ((k + 1) * steps) x0
drawn_next k steps x0 x y was drawn = drawn ∙ ap (draw steps) was ∙ draw_trains k steps x0
