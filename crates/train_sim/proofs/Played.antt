-- The entries of a simulation, computed.
use Rattle.std.specs.Prelude.{ℕ, zero, suc, ◌+◌, nat_lt, ◌&&◌, List, [], ◌∷◌, length, Bool, true, false, Option, Some, None}
use Rattle.rail_model.specs.declared.types.Reply.TheVariants.{Driver, Control}
use Rattle.rail_model.specs.Table.{trains}
use Rattle.rail_model.specs.Yard.{Offer, Yard, in_force, next_offer, control}
use Rattle.rail_model.specs.Checks.{ask, is_arrived, is_due, admitted}
use Rattle.train_sim.specs.Timed.{Clock, Stamped, next_asker, due_of, after_stamped}

abbrev pub is_next_due : List Offer → Yard → Bool
is_next_due tables y =
    nat_lt (y.tried + 1) (length tables) && is_due (in_force tables y) y.positions y.moves (next_offer tables y).after

-- the next entry, if there is one
abbrev pub next_entry : List Offer → Clock → Option Stamped
next_entry tables c =
    let T = in_force tables c.yard in
    elim (is_next_due tables c.yard) [
      | true ↦ Some (record { tick = c.now; entry = record { who = control; reply = Control (admitted T (next_offer tables c.yard).table c.yard.positions) } })
      | false ↦ elim (is_arrived T c.yard.positions) [
        | true ↦ None
        | false ↦ elim (next_asker c (trains T)) [
          | None ↦ None
          | Some i ↦ Some (record { tick = due_of c i; entry = record { who = i; reply = Driver (ask T c.yard.positions i) } })
        ]
      ]
    ]

-- at most this many entries
abbrev pub played : ℕ → List Offer → List (List (List ℕ)) → Clock → List Stamped
played zero tables times c = []
played (suc n) tables times c = elim (next_entry tables c) [
  | None ↦ []
  | Some s ↦ s ∷ played n tables times (after_stamped times c s.entry)
]
