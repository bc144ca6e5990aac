-- What it tells that a search found something, or nothing.
use Rattle.std.proofs.Common.{◌≡◌, ℕ, true, false, Option, Some, None}
use Rattle.std.specs.Prelude.{is_some}
use Rattle.rail_model.specs.Move.{IsFirstOrNone}

pub some_found : (P : ℕ → Type 0) (o : Option ℕ) → IsFirstOrNone P o → is_some o ≡ true → (k : ℕ) × P k
some_found P None first found = absurd (let e : false ≡ true = found in cc)
some_found P (Some k) first found = (k, first.0)

pub none_found : (P : ℕ → Type 0) (o : Option ℕ) → IsFirstOrNone P o → is_some o ≡ false → (k : ℕ) → P k → ⊥
none_found P None first none = first
none_found P (Some k) first none = absurd (let e : true ≡ false = none in cc)
