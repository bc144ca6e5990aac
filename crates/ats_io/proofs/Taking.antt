-- How what was taken from a source adds up over several reads.
use Rattle.std.proofs.Common.{◌≡◌, ℕ, ◌+◌, ◌-◌, ◌≤◌, List, [], ◌++◌, length, min, take, Some, None, sym, ap, ◌∙◌, arith, append-nil, length-append}
use Rattle.std.specs.Prelude.{Option, IfSome}
use Rattle.std.specs.Io.KnownBytes.{Consumes, IsAtEnd}
use Rattle.std.proofs.KnownBytes.{Consumes-trans}
use Rattle.std.proofs.lemmas.List.{length-take}
use Rattle.ats_io.specs.Bytes.{ConsumesAtMost}

-- a further read that gave n bytes
pub takes_more : (a b c : Option (List ℕ)) (xs ys : List ℕ) (n most : ℕ) → Consumes a b xs → Consumes b c (take n ys) → length xs + n ≤ most → ConsumesAtMost most a c
takes_more a b c xs ys n most first second le =
    (xs ++ take n ys, Consumes-trans a b c xs (take n ys) first second, omega (arith, length-append xs (take n ys), length-take n ys))

-- one byte more than fits within the limit, at most
pub within_room : (taken piece buf : List ℕ) (had len rest limit most room count : ℕ) → had ≡ length taken → len ≡ had → len ≤ limit → rest ≡ had
    → room ≡ min (limit - rest) most → length buf ≡ length (take (room + 1) piece) → count ≤ length buf → length taken + count ≤ limit + 1
within_room taken piece buf had len rest limit most room count items is within same room_is kept le = omega (arith, length-take (room + 1) piece)

-- a further read that gave nothing, at the end
pub takes_all : (a b c : Option (List ℕ)) (xs ys : List ℕ) (n : ℕ) → Consumes a b xs → Consumes b c (take n ys) → n ≡ 0 → IsAtEnd c → IfSome a (λ all. xs ≡ all)
takes_all None b c xs ys n first second none end = tt
takes_all (Some l) None c xs ys n first second none end = absurd first
takes_all (Some l) (Some m) None xs ys n first second none end = absurd second
takes_all (Some l) (Some m) (Some r) xs ys n first second none end =
    let rest : m ≡ [] = (rw none at second) ∙ end in
    sym (first ∙ (ap (λ k. xs ++ k) rest ∙ append-nil xs))
