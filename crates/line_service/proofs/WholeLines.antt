-- Lines that each end with a newline are heard as those lines.
use Rattle.std.proofs.Common.{◌≡◌, ◌≢◌, ℕ, suc, ◌-◌, ◌≤◌, List, [], ◌∷◌, ◌++◌, length, take, drop, map, Bool, true, false, refl, sym, ap, inl, inr, ◌∙◌, arith, append_assoc, append-nil, take_all}
use Rattle.std.specs.Prelude.{◌==◌, if◌then◌else◌, slice_index, All}
use Rattle.std.specs.List.{concat}
use Rattle.std.proofs.lemmas.Bool.{cases_lt}
use Rattle.std.proofs.lemmas.Bool.Decides.{eqb_tells}
use Rattle.std.proofs.lemmas.List.{length-take, take-append-drop, take-append-le}
use Rattle.std.proofs.lemmas.List.Sums.{fold-append}
use Rattle.line_service.specs.Lines.{after_byte, after_bytes, handed, kept, newline}
use Rattle.line_service.proofs.HeardLines.{heard_with}

-- a byte that isn't a newline
abbrev pub IsOther : ℕ → Type 0
IsOther byte = byte ≢ newline

-- the first bytes of the first bytes
take_twice : (n m : ℕ) (xs : List ℕ) → n ≤ m → take n (take m xs) ≡ take n xs
take_twice n m xs le = elim (cases_lt m (length xs)) [
  | inr short ↦ ap (take n) (take_all m xs short)
  | inl long ↦
      let full : n ≤ length (take m xs) = omega (arith, length-take m xs) in
      sym (take-append-le n (take m xs) (drop m xs) full) ∙ ap (take n) (take-append-drop m xs)
]

-- what is kept of what was kept and more
kept_more : (xs ys : List ℕ) → kept (kept xs ++ ys) ≡ kept (xs ++ ys)
kept_more xs ys = elim (cases_lt 258 (length xs)) [
  | inr short ↦ ap (λ k. kept (k ++ ys)) (take_all 258 xs short)
  | inl long ↦
      let full : 258 ≤ length (kept xs) = omega (arith, length-take 258 xs) in
      take-append-le 258 (kept xs) ys full ∙ take_twice 258 258 xs (omega arith)
      ∙ sym (take-append-le 258 xs ys (omega arith))
]

-- a carriage return at the end of a line that is too long makes no difference
long_handed_by : (ends : Bool) (line : List ℕ) → 258 ≤ length line
    → take 257 (if ends then take (length line - 1) line else line) ≡ take 257 line
long_handed_by true line long = take_twice 257 (length line - 1) line (omega arith)
long_handed_by false line long = refl

long_handed : (line : List ℕ) → 258 ≤ length line → handed line ≡ take 257 line
long_handed line long = long_handed_by (slice_index line (length line - 1) == 13) line long

-- what is kept of a line is enough
pub handed_kept : (line : List ℕ) → handed (kept line) ≡ handed line
handed_kept line = elim (cases_lt 258 (length line)) [
  | inr short ↦ ap handed (take_all 258 line short)
  | inl long ↦
      let full : 258 ≤ length (kept line) = omega (arith, length-take 258 line) in
      long_handed (kept line) full ∙ take_twice 257 258 line (omega arith) ∙ sym (long_handed line (omega arith))
]

-- one byte that isn't a newline
other_byte : (lines : List (List ℕ)) (begun : List ℕ) (byte : ℕ) → IsOther byte
    → after_byte (heard_with lines (kept begun)) byte ≡ heard_with lines (kept (begun ++ (byte ∷ [])))
other_byte lines begun byte other = elim (eqb_tells byte newline) [
  | inl (holds, same) ↦ absurd (other same)
  | inr (fails, apart) ↦
      ap (λ (b : Bool). if b then heard_with (lines ++ (handed (kept begun) ∷ [])) [] else heard_with lines
      (kept (kept begun ++ (byte ∷ [])))) fails
      ∙ ap (heard_with lines) (kept_more begun (byte ∷ []))
]

-- bytes without a newline
other_bytes : (bytes : List ℕ) (lines : List (List ℕ)) (begun : List ℕ) → All IsOther bytes
    → after_bytes (heard_with lines (kept begun)) bytes ≡ heard_with lines (kept (begun ++ bytes))
other_bytes [] lines begun others = ap (λ bs. heard_with lines (kept bs)) (sym (append-nil begun))
other_bytes (byte ∷ rest) lines begun others =
    ap (λ h. after_bytes h rest) (other_byte lines begun byte (others 0 0 (omega arith)))
    ∙ other_bytes rest lines (begun ++ (byte ∷ [])) (λ k d lt. others (suc k) d (omega arith))
    ∙ ap (λ bs. heard_with lines (kept bs)) (append_assoc begun (byte ∷ []) rest)

-- a line and its newline
whole_line : (line : List ℕ) (lines : List (List ℕ)) → All IsOther line
    → after_bytes (heard_with lines []) (line ++ (newline ∷ [])) ≡ heard_with (lines ++ (handed line ∷ [])) []
whole_line line lines others =
    fold-append after_byte (heard_with lines []) line (newline ∷ [])
    ∙ ap (λ h. after_byte h newline) (other_bytes line lines [] others)
    ∙ ap (λ l. heard_with (lines ++ (l ∷ [])) []) (handed_kept line)

-- lines and their newlines, and then bytes without a newline
pub whole_lines : (lines : List (List ℕ)) (rest : List ℕ) (before : List (List ℕ)) → All (All IsOther) lines
    → All IsOther rest
    → after_bytes (heard_with before []) (concat (map (λ line. line ++ (newline ∷ [])) lines) ++ rest) ≡ heard_with
    (before ++ map handed lines) (kept rest)
whole_lines [] rest before all others = other_bytes rest before [] others
    ∙ ap (λ ls. heard_with ls (kept rest)) (sym (append-nil before))
whole_lines (line ∷ later) rest before all others =
    let ended = concat (map (λ l. l ++ (newline ∷ [])) later) in
    ap (after_bytes (heard_with before [])) (append_assoc (line ++ (newline ∷ [])) ended rest)
    ∙ fold-append after_byte (heard_with before []) (line ++ (newline ∷ [])) (ended ++ rest)
    ∙ ap (λ h. after_bytes h (ended ++ rest)) (whole_line line before (all 0 [] (omega arith)))
    ∙ whole_lines later rest (before ++ (handed line ∷ [])) (λ k d lt. all (suc k) d (omega arith)) others
    ∙ ap (λ ls. heard_with ls (kept rest)) (append_assoc before (handed line ∷ []) (map handed later))
