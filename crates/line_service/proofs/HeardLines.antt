-- How what is heard goes on byte by byte and piece by piece.
use Rattle.std.proofs.Common.{◌≡◌, ℕ, List, [], ◌∷◌, ◌++◌, length, min, take, Bool, true, false, sym, ap, ◌∙◌, arith, append_assoc, append-nil}
use Rattle.std.specs.Prelude.{◌==◌, if◌then◌else◌}
use Rattle.std.proofs.lemmas.List.{take_min}
use Rattle.std.proofs.lemmas.List.Sums.{fold-append}
use Rattle.line_service.specs.Lines.{Heard, after_byte, after_bytes, handed, heard_from, kept, newline}

-- what is cut at the smaller of a length and a number is cut at the number
pub take_at_most : {X : Type 0} (n m len : ℕ) (xs : List X) → m ≡ min len n → len ≡ length xs → take m xs ≡ take n xs
take_at_most n m len xs is full = ap (λ k. take k xs) (let e : m ≡ min n (length xs) = omega arith in e) ∙ take_min n xs

-- a line and bytes of the next
abbrev pub heard_with : List (List ℕ) → List ℕ → Heard
heard_with lines begun = record { lines = lines; begun = begun }

-- the lines of before stay in front
abbrev pub behind : List (List ℕ) → Heard → Heard
behind lines heard = heard_with (lines ++ heard.lines) heard.begun

-- one byte more, a newline or another
front_by : (ends : Bool) (lines : List (List ℕ)) (done : List ℕ) (begun : List ℕ) (rest : List ℕ)
    → ((ls : List (List ℕ)) (bs : List ℕ) → after_bytes (heard_with ls bs) rest ≡ behind ls (heard_from bs rest))
    → after_bytes (if ends then heard_with (lines ++ (done ∷ [])) [] else heard_with lines begun) rest
    ≡ behind lines (after_bytes (if ends then heard_with (done ∷ []) [] else heard_with [] begun) rest)
front_by true lines done begun rest same =
    same (lines ++ (done ∷ [])) []
    ∙ ap (λ ls. heard_with ls (heard_from [] rest).begun)
    (append_assoc lines (done ∷ []) (heard_from [] rest).lines)
    ∙ ap (behind lines) (sym (same (done ∷ []) []))
front_by false lines done begun rest same = same lines begun

-- lines that were heard before stay in front of those that are heard then
pub front : (bytes : List ℕ) (lines : List (List ℕ)) (begun : List ℕ)
    → after_bytes (heard_with lines begun) bytes ≡ behind lines (heard_from begun bytes)
front [] lines begun = ap (λ ls. heard_with ls begun) (sym (append-nil lines))
front (byte ∷ rest) lines begun = front_by (byte == newline) lines (handed begun) (kept (begun ++ (byte ∷ []))) rest
    (front rest)

-- further bytes after some
pub heard_more : (begun first later : List ℕ)
    → heard_from begun (first ++ later) ≡ behind (heard_from begun first).lines
    (heard_from (heard_from begun first).begun later)
heard_more begun first later =
    fold-append after_byte (heard_with [] begun) first later
    ∙ front later (heard_from begun first).lines (heard_from begun first).begun
