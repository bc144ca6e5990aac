-- A session without reports may do what one with reports may.
use Rattle.std.proofs.Common.{◌≡◌, ℕ, ◌-◌, List, refl, ap, arith}
use Rattle.std.proofs.lemmas.Int.{ints}
use Rattle.rail_model.specs.Sums.{greatest}
use Rattle.rail_model.specs.Table.{Table, trains, share, place, count}
use Rattle.rail_model.proofs.Shares.{count_advance}
use Rattle.rail_model.proofs.Sums.{total_same}
use Rattle.live_yard.specs.Telling.{IsLeaving, MayGo, greatest_of, taken}

-- a train that is where it was granted has the share of its place
here : (T : Table) (p : List ℕ) (s i : ℕ) → greatest_of T p p s i ≡ share T i s (place p i)
here T p s i =
    let none : place p i - place p i ≡ 0 = omega arith in
    ap (λ (n : ℕ). greatest (share T i s) (place p i) n) none

-- so the shares that are taken are those that are counted
taken-here : (T : Table) (p : List ℕ) (s : ℕ) → taken T p p s ≡ count T s p
taken-here T p s = total_same (greatest_of T p p s) (λ i. share T i s (place p i)) (trains T) (λ i within. here T p s i)

not_leaving : (T : Table) (p : List ℕ) (i j : ℕ) → IsLeaving T p p i j → ⊥
not_leaving T p i j leaving = omega (arith, leaving.1.2.1, leaving.1.2.2)

pub may_forget : (T : Table) (p r : List ℕ) (i : ℕ) → MayGo T p r i → MayGo T p p i
may_forget T p r i may = record {
  moves = may.moves;
  there = refl;
  left = not_leaving T p i;
  cleared = λ s clearing.
      let next = count_advance T s i p may.moves.before.one_each may.moves.train in
      let within = may.moves.after.within s clearing.0 in
      let over = clearing.2 in
      omega (arith, ints, next, within, over, taken-here T p s);
}
