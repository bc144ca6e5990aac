-- The spots at each point, after one more train.
use Rattle.std.proofs.Common.{◌≡◌, ℕ, suc, ◌+◌, List, [], ◌++◌, length, get_or, take, drop, sym, ◌∙◌, ap, subst, arith}
use Rattle.std.proofs.Math.Seq.{take-append_seam}
use Rattle.rail_model.specs.Table.{Table, last}
use Rattle.state_boxes.specs.declared.ways.Spot.{Spot}
use Rattle.state_boxes.specs.Each.{IsEach}
use Rattle.state_boxes.specs.Ways.{column, spots, AreLonger}

module _ (T : Table) (j : ℕ) (items old new : List (List Spot)) where
  train_added : old ≡ items → IsEach (λ q row. row ≡ spots T q j) 512 [] items → AreLonger (λ q. column T q j (last T j + 1)) old new
      → IsEach (λ q row. row ≡ spots T q (j + 1)) 512 [] new
  train_added same before longer =
      let next : suc j ≡ j + 1 = omega arith in (
        longer.0,
        λ q lt. longer.1 q lt
            ∙ ap (λ (rows : List (List Spot)). get_or rows q [] ++ column T q j (last T j + 1)) same
            ∙ ap (λ (row : List Spot). row ++ column T q j (last T j + 1)) (before.1 q lt)
            ∙ ap (spots T q) next,
      )

  -- the same of the rows that a list of as many rows has after they were written into it
  pub train_written : (n : ℕ) → old ≡ items → n ≡ 512 → IsEach (λ q row. row ≡ spots T q j) 512 [] items
      → AreLonger (λ q. column T q j (last T j + 1)) old new
      → IsEach (λ q row. row ≡ spots T q (j + 1)) 512 [] (take n (new ++ drop (length new) items))
  train_written n same many before longer =
      let rest = drop (length new) items in
      let all : n ≡ length new = many ∙ sym longer.0 in
      let written : take n (new ++ rest) ≡ new = ap (λ (k : ℕ). take k (new ++ rest)) all ∙ take-append_seam new rest in
      subst (IsEach (λ q row. row ≡ spots T q (j + 1)) 512 []) (sym written) (train_added same before longer)
