-- Refusals that are passed up.
use Rattle.std.proofs.Common.{◌≡◌, ◌∙◌, ap, sym, subst, Option, Some, Result, Ok, Err}
use Rattle.std.specs.Prelude.{IfErr, IsErrAnd}
use Rattle.std.specs.Result.{result_err}

-- an error that is passed up is the refusal of its call
pub refused-by : {A E : Type 0} (r : Result A E) (e : E) (o : Option E) → IsErrAnd r (λ y. y ≡ e) → o ≡ Some e → result_err r ≡ o
refused-by (Ok a) e o is h = absurd is
refused-by (Err y) e o is h = ap Some is ∙ sym h

-- what holds of the error of a call holds of the error that is passed up
pub refused-so : {A E : Type 0} (P : E → Type 0) (r : Result A E) (e : E) → IsErrAnd r (λ y. y ≡ e) → P e → IfErr r P
refused-so P (Ok a) e is h = absurd is
refused-so P (Err y) e is h = subst P (sym is) h
