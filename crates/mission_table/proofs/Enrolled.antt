-- The refusals of trains in their order, and trains with nothing wrong.
use Rattle.std.proofs.Common.{◌≡◌, ℕ, ◌≤◌, false, List, [], ◌∷◌, length, Some, None, Ok, Err, option_map, refl, sym, ap, ◌∙◌, arith}
use Rattle.std.specs.Prelude.{nat_lt}
use Rattle.std.proofs.lemmas.Bool.Decides.{nat_tests}
use Rattle.rail_model.specs.Turns.{unless}
use Rattle.rail_model.specs.Naming.{first_double}
use Rattle.rail_model.proofs.Firsts.{then_some-none, option_map-none}
use Rattle.rail_model.proofs.NameTests.{are_names}
use Rattle.track_layout.specs.Numbering.{numbered}
use Rattle.track_layout.specs.declared.numbers.NotNumbered.{NotNumbered}
use Rattle.track_layout.proofs.Checks.{RestsOn, pass, stop}
use Rattle.track_layout.proofs.Doubles.{numbered_double}
use Rattle.mission_table.specs.declared.refused.TrainRefused.{TrainRefused}
use Rattle.mission_table.specs.declared.refused.TrainRefused.TheVariants.{DoubleName}
use Rattle.mission_table.specs.Doubling.{train_refusal}
use Rattle.mission_table.specs.Roster.{AreTrains, too_many, bad_name, double_name, trains_refusal, trains_from}

refused_by : (names : List (List ℕ)) (e : TrainRefused) → trains_refusal names ≡ Some e → trains_from names ≡ Err e
unfolding trains_from
refused_by names e h = ap (λ r. unless r names) h

rows : (names : List (List ℕ)) → RestsOn (trains_refusal names) (too_many (length names) ∷ bad_name names ∷ double_name names ∷ [])
rows names = record { is = refl }

pub refused_count : (names : List (List ℕ)) (e : TrainRefused) → Some e ≡ too_many (length names) → trains_from names ≡ Err e
refused_count names e h = refused_by names e (stop (rows names) h)

pub refused_name : (names : List (List ℕ)) (e : TrainRefused) → None ≡ too_many (length names) → Some e ≡ bad_name names → trains_from names ≡ Err e
refused_name names e h0 h = refused_by names e (stop (pass (rows names) h0) h)

pub refused_double : (names : List (List ℕ)) (e : NotNumbered) → None ≡ too_many (length names) → None ≡ bad_name names → numbered names ≡ Err e
    → trains_from names ≡ Err (train_refusal e)
refused_double names e h0 h1 h =
    let double = numbered_double names e h in
    let row : Some (train_refusal e) ≡ double_name names =
    ap (λ x. Some (train_refusal x)) double.2 ∙ sym (ap (option_map (λ pair. DoubleName pair.0 pair.1)) double.1) in
    refused_by names (train_refusal e) (stop (pass (pass (rows names) h0) h1) row)

-- names that are few, good and different are trains
pub enrolled : (names : List (List ℕ)) → None ≡ too_many (length names) → None ≡ bad_name names → first_double names ≡ None → trains_from names ≡ Ok names
unfolding trains_from
enrolled names h0 h1 h2 =
    let row = sym (ap (option_map (λ pair. DoubleName pair.0 pair.1)) h2) in
    ap (λ r. unless r names) (pass (pass (pass (rows names) h0) h1) row).is

pub are_trains : (names : List (List ℕ)) → None ≡ too_many (length names) → None ≡ bad_name names → first_double names ≡ None → AreTrains names
are_trains names h0 h1 h2 =
    let test : nat_lt 32 (length names) ≡ false = then_some-none _ _ (sym h0) in
    record { few = few (length names) test; named = are_names names (option_map-none _ _ (sym h1)) h2 }
  where
    few : (n : ℕ) → nat_lt 32 n ≡ false → n ≤ 32
    few n test = grind (arith, nat_tests)
