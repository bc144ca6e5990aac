-- Values beside what stands at their places, and the items that they stand for.
use Rattle.std.proofs.Common.{◌≡◌, ℕ, List, [], ◌∷◌, Bool, true, false, ◌&&◌, ◌==◌, length, ap, ◌∙◌, sym, refl, subst, eq-eqb}
use Rattle.std.proofs.Math.Dec.{eqb-suc-zero, eqb-zero-suc, eqb-suc-suc}
use Rattle.toml.specs.Data.{Data, Items}
use Rattle.toml.specs.View.{view, items_view}
use Rattle.toml.specs.declared.value.Value.{Value}
use Rattle.plan_reading.specs.Agreeing.{agree_all, agree_beside, agree_values}

within : (as_many here later : Bool) (rest : Bool) → (as_many && later) ≡ rest → (as_many && (here && later)) ≡ (here && rest)
within true here later rest same = ap (λ b. here && b) same
within false true later rest same = same
within false false later rest same = refl

-- values agree as the items that they stand for
pub agreed_is : {X : Type 0} (t : Data → X → Bool) (vs : List Value) (xs : List X) → agree_values t vs xs ≡ agree_all t (items_view vs) xs
agreed_is t [] [] = refl
agreed_is t [] (x ∷ xs) = ap (λ b. b && true) (eqb-zero-suc (length xs))
agreed_is t (v ∷ vs) [] = ap (λ b. b && true) (eqb-suc-zero (length vs))
agreed_is t (v ∷ vs) (x ∷ xs) =
    ap (λ b. b && (t (view v) x && agree_beside t vs xs)) (eqb-suc-suc (length vs) (length xs))
    ∙ within (length vs == length xs) (t (view v) x) (agree_beside t vs xs) (agree_all t (items_view vs) xs) (agreed_is t vs xs)

pub agreed : {X : Type 0} (t : Data → X → Bool) (vs : List Value) (items : Items) (xs : List X)
    → items_view vs ≡ items → agree_values t vs xs ≡ true → agree_all t items xs ≡ true
agreed t vs items xs seen holds = subst (λ i. agree_all t i xs ≡ true) seen (sym (agreed_is t vs xs) ∙ holds)

-- where there are as many, it is enough that each is what stands beside it
pub counted : {X : Type 0} (t : Data → X → Bool) (vs : List Value) (xs : List X) (r : Bool) → length vs ≡ length xs → r ≡ agree_beside t vs xs → r ≡ agree_values t vs xs
counted t vs xs r same is = is ∙ sym (ap (λ b. b && agree_beside t vs xs) (eq-eqb (length vs) (length xs) same))

-- where two numbers are the same, it is enough that the rest is right
pub as_many : (m n : ℕ) (all r : Bool) → m ≡ n → r ≡ all → r ≡ ((m == n) && all)
as_many m n all r same is = is ∙ sym (ap (λ b. b && all) (eq-eqb m n same))
