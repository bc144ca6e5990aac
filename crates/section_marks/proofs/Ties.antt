-- Connections one after another, and a table with connections that have nothing wrong.
use Rattle.std.proofs.Common.{◌≡◌, ◌∙◌, ◌≢◌, ℕ, ◌<◌, ◌≤◌, Bool, true, false, not, ◌&&◌, ◌==◌, List, [], ◌∷◌, length, get_or, slice_get, Option, Some, None, Ok, Err, refl, sym, ap, arith}
use Rattle.std.specs.Prelude.{nat_lt, nat_le}
use Rattle.std.proofs.lemmas.Bool.Decides.{nat_tests}
use Rattle.std.proofs.lemmas.List.{get_or_default}
use Rattle.std.proofs.lemmas.Option.{slice_get_within, get_or_from_slice_get}
use Rattle.rail_model.specs.Table.{Table, Connection, trains, last, IsConnection}
use Rattle.rail_model.specs.Turns.{first_below, unless}
use Rattle.rail_model.proofs.Firsts.{first_below-found, first_below-none, option_or-none, then_some-none, passing, passed, stopped}
use Rattle.section_marks.specs.declared.refused.MarkRefused.{MarkRefused}
use Rattle.section_marks.specs.Connecting.{too_many, connection_at, bad_trains, bad_places, connection_refusal, each_refusal, connections_refusal, connected}

abbrev at_connection : Table → List Connection → ℕ → Option MarkRefused
at_connection T list c = connection_refusal T c (connection_at list c)

connection_there : (list : List Connection) (c : ℕ) (k : Connection) → c < length list → k ≡ get_or list c k → connection_at list c ≡ k
connection_there list c k lt is = get_or_default list c (record { train = 0; place = 0; other = 0; reached = 0 }) k lt ∙ sym is

connection_stops : (T : Table) (list : List Connection) (c : ℕ) (k : Connection) (e : MarkRefused) → c < length list → k ≡ get_or list c k → connection_refusal T c k ≡ Some e
    → first_below c (at_connection T list) ≡ None → each_refusal T list ≡ Some e
connection_stops T list c k e lt is h none =
    first_below-found (length list) c (at_connection T list) e lt none (ap (connection_refusal T c) (connection_there list c k lt is) ∙ h)

-- the first connection of wrong trains is what is wrong
pub trains_stop : (T : Table) (list : List Connection) (c : ℕ) (k : Connection) (e : MarkRefused) → c < length list → k ≡ get_or list c k → Some e ≡ bad_trains T c k
    → first_below c (at_connection T list) ≡ None → each_refusal T list ≡ Some e
trains_stop T list c k e lt is h none = connection_stops T list c k e lt is (stopped (bad_trains T c k) (bad_places T c k ∷ []) e h) none

-- the first connection of wrong places is what is wrong
pub places_stop : (T : Table) (list : List Connection) (c : ℕ) (k : Connection) (e : MarkRefused) → c < length list → k ≡ get_or list c k → None ≡ bad_trains T c k
    → Some e ≡ bad_places T c k → first_below c (at_connection T list) ≡ None → each_refusal T list ≡ Some e
places_stop T list c k e lt is g h none =
    connection_stops T list c k e lt is (passed (bad_trains T c k) (bad_places T c k ∷ []) (Some e) g (stopped (bad_places T c k) [] e h)) none

-- the answer, from the first refusal
pub connected_err : (T : Table) (list : List Connection) (e : MarkRefused) → Some e ≡ connections_refusal T list → connected T list ≡ Err e
unfolding connected
connected_err T list e h = ap (λ r. unless r (record T { connections = list })) (sym h)

pub connected_ok : (T : Table) (list : List Connection) → None ≡ connections_refusal T list → connected T list ≡ Ok (record T { connections = list })
unfolding connected
connected_ok T list h = ap (λ r. unless r (record T { connections = list })) (sym h)

-- ---- connections with nothing wrong

pub few_connections : (T : Table) (list : List Connection) → connections_refusal T list ≡ None → length list ≤ 32
few_connections T list h = few (length list) (then_some-none _ _ (option_or-none (too_many (length list)) _ h).0)
  where
    few : (n : ℕ) → nat_lt 32 n ≡ false → n ≤ 32
    few n test = grind (arith, nat_tests)

both_true : (a b : Bool) → (a && b) ≡ true → (a ≡ true) × (b ≡ true)
both_true true true e = (refl, refl)
both_true true false e = absurd cc
both_true false b e = absurd cc

below_by_test : (a b : ℕ) → nat_lt a b ≡ true → a < b
below_by_test a b test = grind (arith, nat_tests)

up_to_by_test : (a b : ℕ) → nat_le a b ≡ true → a ≤ b
up_to_by_test a b test = grind (arith, nat_tests)

differ_by_test : (a b : ℕ) → not (a == b) ≡ true → a ≢ b
differ_by_test a b test same = absurd (let equal : (a == b) ≡ true = grind (arith, nat_tests) in no_test (a == b) equal test)
  where
    no_test : (t : Bool) → t ≡ true → not t ≡ true → ⊥
    no_test true e f = absurd cc
    no_test false e f = absurd cc

is_connection : (T : Table) (c : ℕ) (k : Connection) → connection_refusal T c k ≡ None → IsConnection T k
is_connection T c k h =
    let rows = option_or-none (bad_trains T c k) _ h in
    let row = option_or-none (bad_places T c k) None rows.1 in
    let of_trains = both_true _ _ (passing _ (then_some-none _ _ rows.0)) in
    let two = both_true _ _ of_trains.0 in
    let of_places = both_true _ _ (passing _ (then_some-none _ _ row.0)) in
    record {
      train = below_by_test k.train (trains T) two.0;
      other = below_by_test k.other (trains T) two.1;
      two = differ_by_test k.train k.other of_trains.1;
      place = below_by_test k.place (last T k.train) of_places.0;
      reached = up_to_by_test k.reached (last T k.other) of_places.1;
    }

-- Connections with nothing wrong are connections of the table.
pub are_connections : (T : Table) (list : List Connection) → connections_refusal T list ≡ None → (c : ℕ) (k : Connection) → slice_get list c ≡ Some k → IsConnection T k
are_connections T list h c k at =
    let rows = option_or-none (too_many (length list)) _ h in
    let row = option_or-none (each_refusal T list) None rows.1 in
    let within = slice_get_within list c k at in
    let here : connection_at list c ≡ k = get_or_from_slice_get list c k (record { train = 0; place = 0; other = 0; reached = 0 }) at in
    is_connection T c k (sym (ap (connection_refusal T c) here) ∙ first_below-none (length list) (at_connection T list) row.0 c within)
