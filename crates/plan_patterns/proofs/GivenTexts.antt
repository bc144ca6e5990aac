-- Strings and vectors that hold what is given, made of others; for the worked rows of the crates above.
use Rattle.std.proofs.Common.{◌≡◌, ◌<◌, ◌^◌, ℕ, zero, suc, List, [], ◌∷◌, String, Vec, Bool, true, nat_lt, refl, length, arith}
use Rattle.std.specs.List.{list_all}
use Rattle.std.specs.Str.{IsAscii}
use Rattle.std.specs.declared.alloc.Global.{Global}
use Rattle.std.proofs.lemmas.Bool.{and_parts}
use Rattle.std.proofs.lemmas.Bool.Decides.{nat_tests}
use Rattle.std.proofs.lemmas.Grind.{merely}
use Rattle.std.proofs.lemmas.Str.{IsUtf8-from_ascii}

-- a vector of these items
abbrev pub vec_of : {X : Type 0} → Vec X Global → (items : List X) → length items < 2 ^ 63 → Vec X Global
vec_of v items few = record v { len = length items; cap = length items; items = items; ok = (refl, omega arith); small = few }

-- whether these bytes are all below 128
abbrev pub are_low : List ℕ → Bool
are_low bytes = list_all (λ b. nat_lt b 128) bytes

low : (b : ℕ) → nat_lt b 128 ≡ true → b < 128
low b is = grind (arith, nat_tests)

pub IsAscii-low : (bytes : List ℕ) → are_low bytes ≡ true → IsAscii bytes
IsAscii-low [] all i = omega arith
IsAscii-low (b ∷ bytes) all zero = low b (and_parts (nat_lt b 128) (are_low bytes) all).0
IsAscii-low (b ∷ bytes) all (suc i) = IsAscii-low bytes (and_parts (nat_lt b 128) (are_low bytes) all).1 i

-- a string of these bytes
abbrev pub text_of : String Global → (bytes : List ℕ) → length bytes < 2 ^ 63 → are_low bytes ≡ true → String Global
text_of s bytes few all = record s { bytes = vec_of s.bytes bytes few; ok = merely (IsUtf8-from_ascii bytes (IsAscii-low bytes all)) }
