-- Bytes before and after what a search finds.
use Rattle.std.proofs.Common.{◌≡◌, ◌∙◌, ℕ, zero, suc, ◌+◌, ◌<◌, List, [], ◌∷◌, ◌++◌, length, get_or, take, drop, sym, ap, arith}
use Rattle.std.specs.Prelude.{Some}
use Rattle.std.proofs.lemmas.Bool.{eqb-true}
use Rattle.std.proofs.lemmas.List.{append_assoc, take-append-drop}
use Rattle.std.proofs.lemmas.List.Prefix.{at_from_reads}
use Rattle.memchr.specs.Find.{FindsNeedle, IsFirstByte, is_byte}

-- a needle, with all before it and all after it
pub needle_split : (bytes needle : List ℕ) (k : ℕ) → FindsNeedle bytes needle 0 (Some k) → bytes ≡ take k bytes ++ needle ++ drop (k + length needle) bytes
needle_split bytes needle k found =
    sym (take-append-drop k bytes)
    ∙ ap (λ rest. take k bytes ++ rest) (at_from_reads 0 bytes needle k found.1.fits found.1.reads)
    ∙ sym (append_assoc (take k bytes) needle (drop (k + length needle) bytes))

-- a byte, with all before it and all after it
pub byte_split : (bytes : List ℕ) (at k : ℕ) → IsFirstByte (is_byte at) bytes (Some k) → bytes ≡ take k bytes ++ at ∷ drop (k + 1) bytes
byte_split bytes at k found =
    sym (take-append-drop k bytes)
    ∙ ap (λ rest. take k bytes ++ rest) (at_from_reads 0 bytes (at ∷ []) k (omega (arith, found.0.high)) here)
  where
    here : (j : ℕ) → j < length (at ∷ []) → get_or bytes (k + j) 0 ≡ get_or (at ∷ []) j 0
    here zero low = let same : k + 0 ≡ k = omega arith in ap (λ n. get_or bytes n 0) same ∙ eqb-true (get_or bytes k 0) at found.1
    here (suc j) low = absurd (omega arith)
