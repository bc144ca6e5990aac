-- Which refusal is the first.
use Rattle.std.proofs.Common.{◌≡◌, not, option_map, ◌∙◌, Result, IsErrAnd, Ok, Err, ap, ◌⊎◌, ℕ, zero, suc, ◌+◌, ◌<◌, Bool, true, false, List, [], ◌∷◌, ◌++◌, Option, Some, None, refl, sym, arith, inl, inr, subst}
use Rattle.std.specs.Bool.{then_some}
use Rattle.std.specs.Option.{option_or}
use Rattle.std.specs.Result.{result_err}
use Rattle.std.proofs.lemmas.Bool.Decides.{eqb_tells}
use Rattle.rail_model.specs.Turns.{first_of, first_below, unless, AnswersAs}

-- after rows that refuse nothing, the first refusal is that of the rows after them
pub first_of-after : {E : Type 0} (rs ss : List (Option E)) → first_of rs ≡ None → first_of (rs ++ ss) ≡ first_of ss
first_of-after [] ss h = refl
first_of-after (None ∷ rs) ss h = first_of-after rs ss h
first_of-after (Some e ∷ rs) ss h = absurd cc

-- a refusal of the rows in front is the first
pub first_of-before : {E : Type 0} (rs ss : List (Option E)) (e : E) → first_of rs ≡ Some e → first_of (rs ++ ss) ≡ Some e
first_of-before [] ss e h = absurd cc
first_of-before (None ∷ rs) ss e h = first_of-before rs ss e h
first_of-before (Some x ∷ rs) ss e h = h

-- neither has a refusal
pub option_or-none : {E : Type 0} (r s : Option E) → option_or r s ≡ None → (r ≡ None) × (s ≡ None)
option_or-none None s h = (refl, h)
option_or-none (Some e) s h = absurd cc

-- the one has the refusal, or it has none and the other has it
pub option_or-some : {E : Type 0} (r s : Option E) (e : E) → option_or r s ≡ Some e → (r ≡ Some e) ⊎ ((r ≡ None) × (s ≡ Some e))
option_or-some None s e h = inr (refl, h)
option_or-some (Some x) s e h = inl h

pub option_or-both : {E : Type 0} (r s : Option E) → r ≡ None → s ≡ None → option_or r s ≡ None
option_or-both r s h k = subst (λ v. option_or v s ≡ None) (sym h) k

pub option_or-second : {E : Type 0} (r s : Option E) (e : E) → r ≡ None → s ≡ Some e → option_or r s ≡ Some e
option_or-second r s e h k = subst (λ v. option_or v s ≡ Some e) (sym h) k

pub option_or-first : {E : Type 0} (r s : Option E) (e : E) → r ≡ Some e → option_or r s ≡ Some e
option_or-first r s e h = subst (λ v. option_or v s ≡ Some e) (sym h) refl

-- no number below n has a refusal
pub first_below-none : {E : Type 0} (n : ℕ) (f : ℕ → Option E) → first_below n f ≡ None → (k : ℕ) → k < n → f k ≡ None
first_below-none zero f h k l = absurd (omega arith)
first_below-none (suc n) f h k l =
    let both = option_or-none (first_below n f) (f n) h in
    elim (eqb_tells k n) [
      | inl e ↦ subst (λ j. f j ≡ None) (sym e.1) both.1
      | inr d ↦ let other = d.1 in first_below-none n f both.0 k (omega arith)
    ]

pub first_below-all : {E : Type 0} (n : ℕ) (f : ℕ → Option E) → ((k : ℕ) → k < n → f k ≡ None) → first_below n f ≡ None
first_below-all zero f h = refl
first_below-all (suc n) f h =
    option_or-both (first_below n f) (f n) (first_below-all n f (λ k l. h k (omega arith))) (h n (omega arith))

pub first_below-next : {E : Type 0} (n : ℕ) (f : ℕ → Option E) → first_below n f ≡ None → f n ≡ None → first_below (n + 1) f ≡ None
first_below-next n f h k =
    let next : n + 1 ≡ suc n = omega arith in
    subst (λ m. first_below m f ≡ None) (sym next) (option_or-both (first_below n f) (f n) h k)

-- A refusal of a number below n, before which no number has one.
pub record IsFirstBelow {E : Type 0} (n : ℕ) (f : ℕ → Option E) (e : E) : Type 0 where
  pub at : ℕ
  pub within : at < n
  pub refused : f at ≡ Some e
  pub before : (k : ℕ) → k < at → f k ≡ None

later : {E : Type 0} (n : ℕ) (f : ℕ → Option E) (e : E) → IsFirstBelow n f e → IsFirstBelow (suc n) f e
later n f e found = record {
  at = found.at;
  within = let l = found.within in omega arith;
  refused = found.refused;
  before = found.before;
}

pub first_below-some : {E : Type 0} (n : ℕ) (f : ℕ → Option E) (e : E) → first_below n f ≡ Some e → IsFirstBelow n f e
first_below-some zero f e h = absurd cc
first_below-some (suc n) f e h = elim (option_or-some (first_below n f) (f n) e h) [
  | inl early ↦ later n f e (first_below-some n f e early)
  | inr here ↦ record { at = n; within = omega arith; refused = here.1; before = first_below-none n f here.0 }
]

-- the first number that has a refusal gives the first refusal
pub first_below-found : {E : Type 0} (n i : ℕ) (f : ℕ → Option E) (e : E) → i < n → first_below i f ≡ None → f i ≡ Some e → first_below n f ≡ Some e
first_below-found zero i f e l h k = absurd (omega arith)
first_below-found (suc n) i f e l h k = elim (eqb_tells i n) [
  | inl s ↦ option_or-second (first_below n f) (f n) e (subst (λ j. first_below j f ≡ None) s.1 h) (subst (λ j. f j ≡ Some e) s.1 k)
  | inr d ↦ let other = d.1 in option_or-first (first_below n f) (f n) e (first_below-found n i f e (omega arith) h k)
]

-- equal refusals have an equal first one
pub first_below-same : {E : Type 0} (n : ℕ) (f g : ℕ → Option E) → ((k : ℕ) → k < n → f k ≡ g k) → first_below n f ≡ first_below n g
first_below-same zero f g h = refl
first_below-same (suc n) f g h =
    let before : first_below n f ≡ first_below n g = first_below-same n f g (λ k l. h k (omega arith)) in
    let here : f n ≡ g n = h n (omega arith) in
    λ i. option_or (before i) (here i)

-- a row without a refusal failed its test
pub then_some-none : {E : Type 0} (b : Bool) (e : E) → then_some b e ≡ None → b ≡ false
then_some-none false e h = refl
then_some-none true e h = absurd cc

-- a row's refusal passed its test
pub then_some-some : {E : Type 0} (b : Bool) (e x : E) → then_some b e ≡ Some x → (b ≡ true) × (e ≡ x)
then_some-some false e x h = absurd cc
then_some-some true e x h = (refl, cc)

pub first_of-append : {E : Type 0} (rs ss : List (Option E)) → first_of (rs ++ ss) ≡ option_or (first_of rs) (first_of ss)
first_of-append [] ss = refl
first_of-append (None ∷ rs) ss = first_of-append rs ss
first_of-append (Some e ∷ rs) ss = refl

-- a value means that there is no refusal
pub unless-ok : {A E : Type 0} (r : Option E) (a b : A) → unless r a ≡ Ok b → (r ≡ None) × (a ≡ b)
unless-ok None a b h = (refl, cc)
unless-ok (Some e) a b h = absurd cc

-- an error is the refusal
pub unless-err : {A E : Type 0} (r : Option E) (a : A) (e : E) → unless r a ≡ Err e → r ≡ Some e
unless-err None a e h = absurd cc
unless-err (Some x) a e h = let s : x ≡ e = cc in ap Some s

-- an error that is passed up answers what its call answers
pub Answers-err : {A B E : Type 0} (memory : E) (see : A → B) (result : Result A E) (wanted : Result B E) (e : E) → IsErrAnd result (λ y. y ≡ e)
    → (e ≡ memory) ⊎ (wanted ≡ Err e) → AnswersAs memory see result wanted
Answers-err memory see (Ok a) wanted e is h = absurd is
Answers-err memory see (Err y) wanted e is h = subst (λ x. (x ≡ memory) ⊎ (wanted ≡ Err x)) (sym is) h

-- a row without a refusal is left out
pub passed : {E : Type 0} (r : Option E) (rs : List (Option E)) (x : Option E) → None ≡ r → first_of rs ≡ x → first_of (r ∷ rs) ≡ x
passed r rs x h k = ap (λ v. option_or v (first_of rs)) (sym h) ∙ k

-- a row with a refusal has the first one
pub stopped : {E : Type 0} (r : Option E) (rs : List (Option E)) (e : E) → Some e ≡ r → first_of (r ∷ rs) ≡ Some e
stopped r rs e h = ap (λ v. option_or v (first_of rs)) (sym h)

-- an error that is passed up is the refusal
pub result_err-is : {A E : Type 0} (result : Result A E) (e : E) → IsErrAnd result (λ y. y ≡ e) → result_err result ≡ Some e
result_err-is (Ok a) e is = absurd is
result_err-is (Err y) e is = ap Some is

pub Err-is : {A E : Type 0} (result : Result A E) (e : E) → IsErrAnd result (λ y. y ≡ e) → result ≡ Err e
Err-is (Ok a) e is = absurd is
Err-is (Err y) e is = ap Err is

-- a test whose contrary fails passes
pub passing : (b : Bool) → not b ≡ false → b ≡ true
passing true e = refl
passing false e = absurd cc

-- a row that names its value has none where there is no value
pub option_map-none : {A B : Type 0} (f : A → B) (o : Option A) → option_map f o ≡ None → o ≡ None
option_map-none f None h = refl
option_map-none f (Some x) h = absurd cc

pub option_map-some : {A B : Type 0} (f : A → B) (o : Option A) (y : B) → option_map f o ≡ Some y → (x : A) × (o ≡ Some x) × (f x ≡ y)
option_map-some f None y h = absurd cc
option_map-some f (Some x) y h = (x, refl, cc)
