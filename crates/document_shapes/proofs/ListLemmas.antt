-- The items of a list, read in turn.
use Rattle.std.proofs.Common.{◌≡◌, inl, inr, ℕ, zero, suc, ◌+◌, ◌<◌, List, [], ◌∷◌, ◌++◌, length, take, get_or, map, Some, refl, sym, ap, ◌∙◌, subst, arith}
use Rattle.std.specs.Prelude.{⊤, IsSomeAnd, MatchOption, IfOk, IsErrAnd, Result, Ok, Err, Vec}
use Rattle.std.specs.declared.alloc.Global.{Global}
use Rattle.serde_json.specs.Find.{as_array}
use Rattle.std.specs.List.{AllZip}
use Rattle.std.proofs.lemmas.List.{take_more, map-append}
use Rattle.serde_json.specs.Data.{Data}
use Rattle.serde_json.specs.View.{view, items_view}
use Rattle.serde_json.specs.declared.value.Value.{Value}
use Rattle.document_shapes.specs.Readings.{elements, SomeMisfits, MisfitsTwo, ReadsList, MisfitsList}

pub elements-items_view : (vs : List Value) → elements (items_view vs) ≡ map view vs
elements-items_view [] = refl
elements-items_view (v ∷ vs) = ap (λ ds. view v ∷ ds) (elements-items_view vs)

allzip_push : {A B : Type 0} (R : A → B → Type 0) (xs : List A) (ys : List B) (x : A) (y : B) → AllZip R xs ys → R x y → AllZip R (xs ++ x ∷ []) (ys ++ y ∷ [])
allzip_push R [] [] x y h r = (r, tt)
allzip_push R [] (b ∷ ys) x y h r = absurd h
allzip_push R (a ∷ xs) [] x y h r = absurd h
allzip_push R (a ∷ xs) (b ∷ ys) x y h r = (h.0, allzip_push R xs ys x y h.1 r)

-- an error that is passed up is the error of its call
pub passed_up : {A E : Type 0} (r : Result A E) (e f : E) → IsErrAnd r (λ y. y ≡ e) → r ≡ Err f → e ≡ f
passed_up (Ok a) e f is h = absurd is
passed_up (Err y) e f is h = let same : y ≡ f = cc in sym is ∙ same

-- the values below i read as the items so far
pub record ReadTo {X : Type 0} (R : Data → X → Type 0) (vs : List Value) (xs : List X) (i : ℕ) : Type 0 where
  pub each : AllZip R (map view (take i vs)) xs

pub read_push : {X : Type 0} (R : Data → X → Type 0) (vs : List Value) (old new : List X) (i : ℕ) (v : Value) (x : X) → i < length vs → v ≡ get_or vs i v → R (view v) x → new ≡ old ++ x ∷ []
    → ReadTo R vs old i → ReadTo R vs new (i + 1)
read_push R vs old new i v x lt item reads added h =
    let front : map view (take (i + 1) vs) ≡ map view (take i vs) ++ view v ∷ [] =
    ap (map view) (take_more vs i v lt) ∙ map-append view (take i vs) (get_or vs i v ∷ []) ∙ ap (λ w. map view (take i vs) ++ view w ∷ []) (sym item) in
    record { each = rw (front, added) (allzip_push R _ old (view v) x h.each reads) }

misfit_at : (M : Data → Type 0) (vs : List Value) (i : ℕ) (v : Value) → i < length vs → M (view (get_or vs i v)) → SomeMisfits M (map view vs)
misfit_at M [] i v lt m = absurd (omega arith)
misfit_at M (w ∷ vs) zero v lt m = inl m
misfit_at M (w ∷ vs) (suc i) v lt m = inr (misfit_at M vs i v (omega arith) m)

pub one_misfits : (M : Data → Type 0) (vs : List Value) (i : ℕ) (v : Value) → i < length vs → v ≡ get_or vs i v → M (view v) → SomeMisfits M (map view vs)
one_misfits M vs i v lt item m = misfit_at M vs i v lt (subst (λ w. M (view w)) item m)

pub two_other : (M N : Data → Type 0) (vs : List Value) → (length vs ≡ 2 → ⊥) → MisfitsTwo M N (elements (items_view vs))
two_other M N [] other = tt
two_other M N (x ∷ []) other = tt
two_other M N (x ∷ y ∷ []) other = absurd (other refl)
two_other M N (x ∷ y ∷ z ∷ rest) other = tt

pub reads_list : {X E : Type 0} (R : Data → X → Type 0) (d : Data) (vs : List Value) (r : Result (Vec X Global) E) → Some (items_view vs) ≡ as_array d → IfOk r (λ v. AllZip R (map view vs) v.items) → IfOk r (λ v. ReadsList R d v.items)
reads_list {X} R d vs (Ok v) is h = subst (λ o. IsSomeAnd o (λ ds. AllZip R (elements ds) v.items)) is (subst (λ ds. AllZip R ds v.items) (sym (elements-items_view vs)) h)
reads_list R d vs (Err e) is h = tt

pub misfits_list : (M : Data → Type 0) (d : Data) (vs : List Value) → Some (items_view vs) ≡ as_array d → SomeMisfits M (map view vs) → MisfitsList M d
misfits_list M d vs is h = subst (λ o. MatchOption o ⊤ (λ ds. SomeMisfits M (elements ds))) is (subst (SomeMisfits M) (sym (elements-items_view vs)) h)
