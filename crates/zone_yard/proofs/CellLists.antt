-- Cells are read one after the other, and paid in their order.
use Rattle.zone_yard.proofs.Prelude.{◌≡◌, ◌≢◌, ℕ, zero, suc, ◌+◌, ◌<◌, ◌≤◌, ◌^◌, List, [], ◌∷◌, length, get_or, Bool, true, false, cond, Option, Some, None, refl, sym, ap, ◌∙◌, subst, ⊎_elim, arith, slice_get, is_none, Cell, number_of, put, first_unknown, is_cell, Seat, AreAllSmall}
use Rattle.std.proofs.Common.{drop}
use Rattle.move_claim.specs.Cells.{same_cell, without_cell, AreDistinct}
use Rattle.zone_machine.specs.World.{Setup as CoreSetup}
use Rattle.zone_machine.proofs.OwnSteps.{same_self, cells, number_of-put_same, number_of-put_other}
use Rattle.zone_machine.proofs.Places.{same_some}
use Rattle.zone_yard.specs.Views.{read, paid}
use Rattle.zone_yard.specs.Holding.{Knows, StillOwes, AreCells}

pub put-length : (c : Cell) (n : ℕ) (xs : List (Cell × ℕ)) → length (put c n xs) ≤ suc (length xs)
put-length c n [] = omega arith
put-length c n (x ∷ xs) = go (same_cell c x.0) (put-length c n xs)
  where
    go : (b : Bool) → length (put c n xs) ≤ suc (length xs) → length (cond b ((c, n) ∷ xs) (x ∷ put c n xs)) ≤ suc (suc (length xs))
    go true le = omega arith
    go false le = omega arith

pub put-small : (c : Cell) (n : ℕ) (xs : List (Cell × ℕ)) → AreAllSmall xs → n < 2 ^ 31 → AreAllSmall (put c n xs)
put-small c n xs small low = λ d m e. ⊎_elim
    (λ (t : (same_cell c d ≡ true) × (c ≡ d)). let is : n ≡ m = same_some n m (sym (number_of-put_same c n xs) ∙ (ap (λ x. number_of x (put c n xs)) t.1 ∙ e)) in omega (arith, is, low))
    (λ (t : (same_cell c d ≡ false) × (c ≢ d)). small d m (sym (number_of-put_other c d n xs (λ x. t.1 (sym x))) ∙ e))
    (cells c d)

pub put-new : (c : Cell) (n : ℕ) (xs : List (Cell × ℕ)) → is_none (number_of c (put c n xs)) ≡ false
put-new c n xs = rw (number_of-put_same c n xs) refl

pub put-seen : (c d : Cell) (n : ℕ) (xs : List (Cell × ℕ)) → is_none (number_of d xs) ≡ false → is_none (number_of d (put c n xs)) ≡ false
put-seen c d n xs seen = ⊎_elim
    (λ (t : (same_cell c d ≡ true) × (c ≡ d)). subst (λ x. is_none (number_of x (put c n xs)) ≡ false) t.1 (put-new c n xs))
    (λ (t : (same_cell c d ≡ false) × (c ≢ d)). ap is_none (number_of-put_other c d n xs (λ x. t.1 (sym x))) ∙ seen)
    (cells c d)

pub all_seen : (l : List Cell) (known : List (Cell × ℕ)) → ((j : ℕ) (c : Cell) → j < length l → slice_get l j ≡ Some c → is_none (number_of c known) ≡ false) → first_unknown l known ≡ None
all_seen [] known h = refl
all_seen (c ∷ cs) known h = rw (h 0 c (omega arith) refl) (all_seen cs known (λ j d lt e. h (suc j) d (omega arith) e))

-- a cell that is in the list has a number there
pub has_number : (xs : List (Cell × ℕ)) (k : ℕ) (x : Cell × ℕ) → slice_get xs k ≡ Some x → (n : ℕ) × (number_of x.0 xs ≡ Some n)
has_number [] k x e = absurd (cc e)
has_number (y ∷ ys) zero x e = let same = same_some y x e in (y.1, rw (subst (λ (z : Cell × ℕ). same_cell z.0 y.0 ≡ true) same (same_self y.0)) refl)
has_number (y ∷ ys) (suc k) x e = go (same_cell x.0 y.0) (has_number ys k x e)
  where
    go : (b : Bool) → (n : ℕ) × (number_of x.0 ys ≡ Some n) → (n : ℕ) × (cond {A = Option ℕ} b (Some y.1) (number_of x.0 ys) ≡ Some n)
    go true r = (y.1, refl)
    go false r = r

pub are_cells : (S : CoreSetup) (owed : List (Cell × ℕ)) → ((c : Cell) (n : ℕ) → number_of c owed ≡ Some n → is_cell S c ≡ true) → AreCells S owed
are_cells S owed h = λ k x e. let r = has_number owed k x e in h x.0 r.0 r.1

without_absent : (c : Cell) (xs : List (Cell × ℕ)) → number_of c xs ≡ None → without_cell c xs ≡ xs
without_absent c [] e = refl
without_absent c (x ∷ xs) e = go (same_cell c x.0) e (without_absent c xs)
  where
    go : (b : Bool) → cond {A = Option ℕ} b (Some x.1) (number_of c xs) ≡ None → (number_of c xs ≡ None → without_cell c xs ≡ xs) → cond b (without_cell c xs) (x ∷ without_cell c xs) ≡ x ∷ xs
    go true e later = absurd (cc e)
    go false e later = ap (λ l. x ∷ l) (later e)

-- the first that is owed is paid
pub paid_first : (xs : List (Cell × ℕ)) (k : ℕ) (d : Cell × ℕ) → AreDistinct xs → k < length xs → without_cell (get_or xs k d).0 (drop k xs) ≡ drop (suc k) xs
paid_first [] k d distinct lt = absurd (omega arith)
paid_first (x ∷ xs) zero d distinct lt = rw (same_self x.0) (without_absent x.0 xs distinct.0)
paid_first (x ∷ xs) (suc k) d distinct lt = paid_first xs k d distinct.1 (omega arith)

pub pays_next : (owed : List (Cell × ℕ)) (k : ℕ) (d : Cell × ℕ) (old l new : Seat) → AreDistinct owed → k < length owed → StillOwes old (drop k owed) l → new ≡ record l { view = paid (get_or owed k d).0 l.view }
    → StillOwes old (drop (k + 1) owed) new
pays_next owed k d old l new distinct lt p is =
    is ∙ (ap (λ (m : Seat). record m { view = paid (get_or owed k d).0 m.view }) p
    ∙ ap (λ (o : List (Cell × ℕ)). record old { view = record old.view { actor = record old.view.actor { owed = o } } }) (paid_first owed k d distinct lt ∙ ap (λ n. drop n owed) (let e : suc k ≡ k + 1 = omega arith in e)))

pub knows_next : (c : Cell) (n : ℕ) (known more : List (Cell × ℕ)) (old l new : Seat) → Knows old l known → new ≡ record l { view = read c n l.view } → more ≡ put c n known → Knows old new more
knows_next c n known more old l new k is now =
    is ∙ (ap (λ (m : Seat). record m { view = read c n m.view }) k ∙ ap (λ (o : List (Cell × ℕ)). record old { view = record old.view { actor = record old.view.actor { known = o } } }) (sym now))
