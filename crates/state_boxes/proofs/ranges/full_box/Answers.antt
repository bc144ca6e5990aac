use Rattle.std.proofs.Common.{◌≡◌, ℕ, ◌+◌, ◌<◌, List, [], ◌∷◌, ◌++◌, false, length, map, take, sym, ap, ◌∙◌, arith}
use Rattle.std.proofs.lemmas.List.{map_more}
use Rattle.rail_model.specs.Table.{Table, Mission, last, last_of}
use Rattle.rail_model.specs.Certificate.{Range}
use Rattle.state_boxes.proofs.ranges.full_box.Goals as goal

one_more : (T : Table) (i hi : ℕ) (ranges : List Range) → i < length T.missions → hi ≡ last T i
    → ranges ≡ map (λ m. record { lo = 0; hi = last_of m }) (take i T.missions)
    → ranges ++ record { lo = 0; hi = hi } ∷ [] ≡ map (λ m. record { lo = 0; hi = last_of m }) (take (i + 1) T.missions)
one_more T i hi ranges within is before =
    let all : Mission → Range = λ (m : Mission). record { lo = 0; hi = last_of m } in
    ap (λ (rs : List Range). rs ++ record { lo = 0; hi = hi } ∷ []) before
    ∙ ap (λ (k : ℕ). map all (take i T.missions) ++ record { lo = 0; hi = k } ∷ []) is
    ∙ sym (map_more all T.missions i (record { points = []; exits = false }) within)

pub loop-train-preserved : goal.loop-train-preserved
loop-train-preserved c =
    let ranges : List Range = c.loop-train.items.items in
    c.in_ok-push.ensures.items
    ∙ ap (λ (r : Range). ranges ++ r ∷ []) c.new.ensures
    ∙ one_more c.args.table.now c.loop-train.train c.last_of.result ranges (omega arith) c.last_of.ensures.last c.loop-train.invariant
