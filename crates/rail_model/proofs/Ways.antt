-- What the ways of a table and of a layout's missions keep.
use Rattle.std.proofs.Common.{◌≡◌, ℕ, ◌+◌, ◌<◌, ◌≤◌, List, length, get_or, slice_get, Some, false, [], refl, arith, ap, sym, ◌∙◌, inl, inr}
use Rattle.std.specs.Prelude.{◌≢◌}
use Rattle.std.proofs.lemmas.List.{get_or_past}
use Rattle.std.proofs.lemmas.Option.{slice_get-get_or}
use Rattle.std.proofs.lemmas.Bool.{cases_lt}
use Rattle.rail_model.specs.Layout.{Layout, AreLinked, IsLayout}
use Rattle.rail_model.specs.Table.{Mission, Table, trains, mission, point, IsMission, AreMissions, IsTable}
use Rattle.rail_model.specs.Ways.{IsMissionOf, AreMissionsOf, IsOn}

-- only a train has points
pub train_there : (T : Table) (i k q : ℕ) → point T i k ≡ Some q → i < trains T
train_there T i k q at = elim (cases_lt i (trains T)) [
  | inl lt ↦ lt
  | inr past ↦
      let none : mission T i ≡ record { points = []; exits = false } = get_or_past T.missions i (record { points = []; exits = false }) past in
      absurd (let bad = ap (λ (m : Mission). slice_get m.points k) (sym none) ∙ at in cc)
]

-- A train's next point is never its own.
pub next_is_other : (T : Table) (i k q : ℕ) → IsTable T → point T i k ≡ Some q → point T i (k + 1) ≡ Some q → ⊥
next_is_other T i k q formed at next = (formed.missions i (train_there T i k q at)).steps k q q at next refl

-- a link joins two different points
linked_apart : (L : Layout) (a b : ℕ) → IsLayout L → AreLinked L a b → a ≢ b
linked_apart L a b layout linked = elim linked [
  | inl there ↦ (layout.joined there.0 (record { first = a; second = b }) (slice_get-get_or L.links there.0 (record { first = a; second = b }) there.1 ∙ ap Some there.2)).2
  | inr there ↦ λ same. (layout.joined there.0 (record { first = b; second = a }) (slice_get-get_or L.links there.0 (record { first = b; second = a }) there.1 ∙ ap Some there.2)).2 (sym same)
]

-- A mission of a layout is a mission.
pub is_mission_of : (L : Layout) (m : Mission) → IsLayout L → IsMissionOf L m → IsMission m
is_mission_of L m layout is = record {
  some_point = is.some_point;
  few_places = is.few_places;
  low_points = λ k q at. omega (arith, is.points k q at, layout.few_points);
  steps = λ k p q at next. linked_apart L p q layout (is.linked k p q at next);
}

-- Missions of a layout are missions, where they are of few trains.
pub are_missions_of : (L : Layout) (missions : List Mission) → IsLayout L → length missions ≤ 32 → AreMissionsOf L missions → AreMissions missions
are_missions_of L missions layout few are = record {
  few = few;
  each = λ i lt. let none : Mission = record { points = []; exits = false } in is_mission_of L (get_or missions i none) layout (are i (get_or missions i none) (slice_get-get_or missions i none lt));
}

-- A table whose missions are a layout's has the layout's points.
pub missions_on : (L : Layout) (T : Table) → AreMissionsOf L T.missions → IsOn L T
missions_on L T are i k q at =
    (are i (mission T i) (slice_get-get_or T.missions i (record { points = []; exits = false }) (train_there T i k q at))).points k q at
