-- A word of a core is found and written eight times as far on in the shared table.
use Rattle.zone_yard.proofs.Prelude.{◌≡◌, ℕ, zero, suc, ◌+◌, ◌*◌, ◌<◌, List, [], ◌∷◌, ◌++◌, length, set, get_or, refl, ap, ◌∙◌, arith, spread}
use Rattle.std.proofs.Common.{take}
use Rattle.std.proofs.lemmas.List.{take_more}

next : (i : ℕ) → 8 * suc i ≡ suc (suc (suc (suc (suc (suc (suc (suc (8 * i))))))))
next i = omega arith

pub spread-get : (ws : List ℕ) (i : ℕ) → get_or (spread ws) (8 * i) 0 ≡ get_or ws i 0
spread-get [] i = refl
spread-get (w ∷ ws) zero = refl
spread-get (w ∷ ws) (suc i) = ap (λ k. get_or (spread (w ∷ ws)) k 0) (next i) ∙ spread-get ws i

pub spread-set : (ws : List ℕ) (i n : ℕ) → set (spread ws) (8 * i) n ≡ spread (set ws i n)
spread-set [] i n = refl
spread-set (w ∷ ws) zero n = refl
spread-set (w ∷ ws) (suc i) n = ap (λ k. set (spread (w ∷ ws)) k n) (next i) ∙ ap (λ l. w ∷ 0 ∷ 0 ∷ 0 ∷ 0 ∷ 0 ∷ 0 ∷ 0 ∷ l) (spread-set ws i n)

pub spread-length : (ws : List ℕ) → length (spread ws) ≡ 8 * length ws
spread-length [] = refl
spread-length (w ∷ ws) = let e = spread-length ws in omega arith

spread-append : (vs ws : List ℕ) → spread (vs ++ ws) ≡ spread vs ++ spread ws
spread-append [] ws = refl
spread-append (v ∷ vs) ws = ap (λ l. v ∷ 0 ∷ 0 ∷ 0 ∷ 0 ∷ 0 ∷ 0 ∷ 0 ∷ l) (spread-append vs ws)

pub spread-more : (ws : List ℕ) (k : ℕ) → k < length ws → spread (take (k + 1) ws) ≡ spread (take k ws) ++ get_or ws k 0 ∷ 0 ∷ 0 ∷ 0 ∷ 0 ∷ 0 ∷ 0 ∷ 0 ∷ []
spread-more ws k lt = ap spread (take_more ws k 0 lt) ∙ spread-append (take k ws) (get_or ws k 0 ∷ [])

-- a word that is found in the table is the core's
pub found_apart : (ts ws : List ℕ) (i j : ℕ) → ts ≡ spread ws → j ≡ 8 * i → get_or ts j 0 ≡ get_or ws i 0
found_apart ts ws i j is at = ap (λ l. get_or l j 0) is ∙ (ap (λ k. get_or (spread ws) k 0) at ∙ spread-get ws i)
