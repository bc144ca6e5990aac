-- In a table, no count of a section is below 0, wherever the trains are.
use Rattle.std.proofs.Common.{◌≡◌, ℕ, zero, suc, ◌+◌, ◌-◌, ◌<◌, ◌≤◌, pos, ◌+ℤ◌, ◌≤ℤ◌, List, [], length, refl, ap, ◌∙◌, ⊎_elim, arith}
use Rattle.std.specs.Prelude.{slice_index_or}
use Rattle.std.proofs.lemmas.Bool.{cases_lt}
use Rattle.std.proofs.lemmas.Int.{ints}
use Rattle.std.proofs.lemmas.List.{get_or_past}
use Rattle.rail_model.specs.Table.{Table, Section, trains, last, section, change, share, place, count, IsTable}
use Rattle.rail_model.specs.State.{Legal}
use Rattle.rail_model.specs.Move.{Answers}
use Rattle.rail_model.specs.Checks.{ask}
use Rattle.rail_model.specs.declared.types.Ask.{Ask}
use Rattle.rail_model.specs.Sums.{total_below}
use Rattle.rail_model.proofs.Asked.{ask-agrees}
use Rattle.rail_model.proofs.Shares.{share_next, total_not_below}

-- a share past the end of a train's way is that at its end
share_past : (T : Table) (i s k : ℕ) → IsTable T → i < trains T → s < length T.sections
    → share T i s (last T i + k) ≡ share T i s (last T i)
share_past T i s zero table i_in s_in = ap (share T i s) (let e : last T i + 0 ≡ last T i = omega arith in e)
share_past T i s (suc k) table i_in s_in =
    let before = share_past T i s k table i_in s_in in
    let none : change T i s (last T i + k + 1) ≡ pos 0 =
    get_or_past (slice_index_or (section T s).changes i []) (last T i + k + 1) (pos 0)
    (omega (arith, (table.sections s s_in).per_place i i_in)) in
    let next : share T i s (last T i + k + 1) ≡ share T i s (last T i + k) +ℤ change T i s (last T i + k + 1) =
    share_next T i s (last T i + k) in
    let same : share T i s (last T i + suc k) ≡ share T i s (last T i + k + 1) =
    ap (share T i s) (let e : last T i + suc k ≡ last T i + k + 1 = omega arith in e) in
    omega (arith, ints)

-- a section that there is not has no shares
no_share : (T : Table) (i s k : ℕ) → length T.sections ≤ s → share T i s k ≡ pos 0
no_share T i s k past = go (suc k)
  where
    none : (j : ℕ) → change T i s j ≡ pos 0
    none j = ap (λ (x : Section). slice_index_or (slice_index_or x.changes i []) j (pos 0))
        (get_or_past T.sections s (record { limit = 0; changes = [] }) past)

    go : (n : ℕ) → total_below (change T i s) n ≡ pos 0
    go zero = refl
    go (suc n) = let before = go n in let here = none n in omega (arith, ints)

-- a count is not below 0, wherever the trains are
pub count_low : (T : Table) (s : ℕ) (p : List ℕ) → IsTable T → pos 0 ≤ℤ count T s p
count_low T s p table = ⊎_elim there none (cases_lt s (length T.sections))
  where
    none : length T.sections ≤ s → pos 0 ≤ℤ count T s p
    none past = total_not_below (λ i. share T i s (place p i)) (trains T)
        (λ i lt. let e = no_share T i s (place p i) past in omega (arith, ints))

    there : s < length T.sections → pos 0 ≤ℤ count T s p
    there s_in = total_not_below (λ i. share T i s (place p i)) (trains T) (λ i lt. ⊎_elim
        (λ (past : last T i < place p i).
        let k : ℕ = place p i - last T i in
        let is : place p i ≡ last T i + k = omega arith in
        let e : share T i s (place p i) ≡ share T i s (last T i) = ap (share T i s) is ∙ share_past T i s k table lt s_in in
        let low = (table.sections s s_in).not_below i (last T i) lt (omega arith) in
        omega (arith, ints))
        (λ (within : place p i ≤ last T i). (table.sections s s_in).not_below i (place p i) lt within)
        (cases_lt (last T i) (place p i)))

-- in a legal state, the answer to a train is what the test computes
pub told_is_ask : (T : Table) (p : List ℕ) (i : ℕ) (a : Ask) → IsTable T → Legal T p → i < trains T → Answers T p i a
    → a ≡ ask T p i
told_is_ask T p i a table legal lt told = (ask-agrees T p i a legal lt (λ s. count_low T s p table)).0 told
