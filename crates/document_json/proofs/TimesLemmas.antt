-- Travel times that are not refused.
use Rattle.std.proofs.Common.{◌≡◌, ℕ, ◌<◌, ◌≤◌, false, List, [], None, length, get_or, subst, arith}
use Rattle.std.specs.Prelude.{not, ◌&&◌, nat_le}
use Rattle.std.proofs.lemmas.Bool.Decides.{nat_tests}
use Rattle.std.proofs.lemmas.List.{get_or_default}
use Rattle.rail_model.specs.Table.{Table, trains, last}
use Rattle.rail_model.specs.Times.{AreTimes}
use Rattle.rail_model.specs.Turns.{first_below}
use Rattle.rail_model.proofs.Firsts.{then_some-none, option_or-none, first_below-none}
use Rattle.document_json.specs.Tables.{other_lists, bad_length, bad_time, bad_times, times_refusal}

-- one time per step
pub length-good : (t : ℕ) (T : Table) (times : List (List ℕ)) (i : ℕ) → bad_length t T times i ≡ None → length (get_or times i []) ≡ last T i
length-good t T times i h = let same = then_some-none _ _ h in grind (arith, nat_tests)

lists_good : (t : ℕ) (T : Table) (times : List (List ℕ)) → other_lists t T times ≡ None → length times ≡ trains T
lists_good t T times h = let same = then_some-none _ _ h in grind (arith, nat_tests)

low_time : (v : ℕ) → not (nat_le 1 v && nat_le v 1000) ≡ false → 1 ≤ v
low_time v h = grind (arith, nat_tests)

high_time : (v : ℕ) → not (nat_le 1 v && nat_le v 1000) ≡ false → v ≤ 1000
high_time v h = grind (arith, nat_tests)

-- times with nothing wrong
pub are_times : (t : ℕ) (T : Table) (times : List (List ℕ)) → times_refusal t T times ≡ None → AreTimes T times
are_times t T times h =
    let a = option_or-none (other_lists t T times) _ h in
    let b = option_or-none (first_below (trains T) (bad_length t T times)) _ a.1 in
    let c = option_or-none (first_below (trains T) (λ i. bad_times t i (get_or times i []))) None b.1 in
    let lengths = λ (i : ℕ) (lt : i < trains T). length-good t T times i (first_below-none (trains T) (bad_length t T times) b.0 i lt) in
    let test = λ (i k : ℕ) (lt : i < trains T) (step : k < length (get_or times i [])).
    then_some-none (not (nat_le 1 (get_or (get_or times i []) k 0) && nat_le (get_or (get_or times i []) k 0) 1000)) _
    (first_below-none (length (get_or times i [])) (λ k. bad_time t i k (get_or (get_or times i []) k 0))
    (first_below-none (trains T) (λ i. bad_times t i (get_or times i [])) c.0 i lt) k step) in
    record {
      one_each = lists_good t T times a.0;
      per_step = lengths;
      not_below = λ i k lt step.
          let here : k < length (get_or times i []) = omega (arith, step, lengths i lt) in
          subst (λ v. 1 ≤ v) (get_or_default (get_or times i []) k 0 1 here) (low_time _ (test i k lt here));
      not_above = λ i k lt step.
          let here : k < length (get_or times i []) = omega (arith, step, lengths i lt) in
          subst (λ v. v ≤ 1000) (get_or_default (get_or times i []) k 0 1 here) (high_time _ (test i k lt here));
    }
