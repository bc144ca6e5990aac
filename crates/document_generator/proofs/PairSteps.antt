-- One pair more is drawn.
use Rattle.std.proofs.Common.{◌≡◌, ℕ, suc, ◌+◌, ◌-◌, ◌*◌, ◌<◌, List, [], ◌∷◌, ◌++◌, ap, append_assoc, arith, ◌∙◌}
use Rattle.std.specs.Prelude.{min}
use Rattle.document_generator.specs.Pairs.{Pair, pair_after, pairs_from, loops_after, last_draw}

-- the first of the further pairs, and those after it
pairs-next : (n i first left x : ℕ) → i < n →
    pairs_from (n - i) i first left x
    ≡ pair_after i first (min left 2) x
    ∷ pairs_from (n - (i + 1)) (i + 1) (first + (3 * loops_after x + 1)) (left - min left 2) (last_draw (min left 2) x)
pairs-next n i first left x l =
    let e : n - i ≡ suc (n - (i + 1)) = omega arith in ap (λ (m : ℕ). pairs_from m i first left x) e

-- all pairs: those found, with one more, and the further ones
pub one_more : (all found new : List Pair) (g : Pair) (n i first left x here loops last : ℕ) → i < n → all ≡ found ++ pairs_from (n - i) i first left x →
    here ≡ min left 2 → g ≡ pair_after i first here x → loops ≡ g.loops → last ≡ last_draw here x → new ≡ found ++ g ∷ [] →
    all ≡ new ++ pairs_from (n - (i + 1)) (i + 1) (first + (3 * loops + 1)) (left - here) last
one_more all found new g n i first left x here loops last l was two drawn counted ended pushed =
    let next = pairs-next n i first left x l in
    let split = append_assoc found (g ∷ []) (pairs_from (n - (i + 1)) (i + 1) (first + (3 * loops + 1)) (left - here) last) in
    let c : loops ≡ loops_after x = counted ∙ ap (λ (p : Pair). p.loops) drawn in
    cc
