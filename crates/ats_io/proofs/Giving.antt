-- A piece that is copied from the front of what a source has left.
use Rattle.std.proofs.Common.{◌≡◌, ℕ, ◌+◌, ◌≤◌, List, ◌++◌, length, take, drop, sym, ap, ◌∙◌, take_at, length-take-le, take-append-drop}
use Rattle.std.proofs.lemmas.List.{drop-drop}

-- what is left is the piece, and then what is left after it
pub given_front : (all piece behind : List ℕ) (given count : ℕ) → piece ≡ take count (drop given all) → count ≤ length (drop given all)
    → drop given all ≡ take count (piece ++ behind) ++ drop (given + count) all
given_front all piece behind given count copied le =
    let left = drop given all in
    let len : length piece ≡ count = ap length copied ∙ length-take-le count left le in
    rw (take_at piece behind count len, copied, ← drop-drop count given all) (sym (take-append-drop count left))
