-- What a call gives, by three clauses.
use Rattle.std.specs.Prelude.{Result, Ok, Err, IfOk}

-- all three hold of it
pub all_three : {T E : Type 0} (P Q R : T → Type 0) (r : Result T E) → IfOk r P → IfOk r Q → IfOk r R → IfOk r (λ x. P x × Q x × R x)
all_three P Q R (Ok x) p q s = (p, q, s)
all_three P Q R (Err e) p q s = tt
