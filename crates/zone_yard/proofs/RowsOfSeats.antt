-- Rows of seats: what a driver's seat keeps between calls, and what its tries at a step leave.
use Rattle.zone_yard.proofs.Prelude.{◌≡◌, ℕ, [], ◌∷◌, Some, refl, arith, lit<, Occupied, number_of, granted_steps, SharedYard, spread, root_view, pass_view, knower, Seat, RefusesZone}
use Rattle.std.proofs.Common.{lit≤}
use Rattle.rail_model.specs.declared.types.BlockAsk.TheVariants.{Yes, First, NotWhole}
use Rattle.move_claim.specs.declared.cells.Cell.TheVariants.{Table as TableCell}
use Rattle.zone_yard.specs.Aboard.{IsDriver, IsControl}
use Rattle.zone_yard.specs.Attempts.{Moves, Since, TurnsAway}
use Rattle.zone_yard.proofs.Roots.{fresh}
use Rattle.zone_yard.proofs.Samples.{four_zones, one_zone, two_tables}

-- the seat of a train that has boarded a new yard
abbrev pub seat : SharedYard → ℕ → Seat
seat yard p = record { view = pass_view p (root_view yard.setup []); slots = [] }

driver : IsDriver 1 0 0 (seat one_zone 1)
driver = record {
  pass = fresh (root_view one_zone.setup []) 1 (lit< tt) tt;
  named = lit< tt;
}

-- there is no third train, and no pass is another one
no_train : IsDriver 2 0 0 (seat one_zone 2) → ⊥
no_train h = let lt = h.named in omega (arith, lt)

not_another : IsDriver 0 0 0 (seat one_zone 1) → ⊥
not_another h = cc h.pass.number_is

-- the control has boarded a yard of one train, whose first table is in force
control : IsControl 0 0 (0 ∷ []) (seat two_tables 32)
control = record {
  pass = fresh (root_view two_tables.setup []) 32 (lit< tt) tt;
  answered = refl;
  one_each = refl;
}

no_room : IsControl 0 0 [] (seat two_tables 32) → ⊥
no_room h = cc h.one_each

-- it knows the number of the table in force
knows : number_of TableCell (knower ((TableCell, 1) ∷ []) 0).known ≡ Some 1
knows = refl

-- a grant alone leads on
on : granted_steps 3 Yes ≡ 3
on = refl

kept_back : granted_steps 3 (First (Occupied 1)) ≡ 0
kept_back = refl

part_way : granted_steps 3 (NotWhole 2 (Occupied 1)) ≡ 0
part_way = refl

-- E to F where A to B holds both its zones: the seat after its look at the first table and its try at zone 1
abbrev pub old : Seat
old = seat (four_zones 9) 2

abbrev pub found : ℕ → Seat
found word =
    record old { view = record old.view { tries = record { zone = 1; found = word; glanced = 0 } ∷ []; actor = record old.view.actor { glance = Some 0 } } }

turned_away : TurnsAway 1 old (found 1) 1 1
turned_away = record {
  earlier = [];
  table = 0;
  tries = refl;
  another = ((λ e. cc e), (λ e. cc e), lit≤ tt);
  listed = lit< tt;
  needed = refl;
  since = record { tries = (record { zone = 1; found = 1; glanced = 0 } ∷ [], refl); noted = lit≤ tt; now = refl };
}

not_by_itself : (new : Seat) → TurnsAway 1 old new 1 3 → ⊥
not_by_itself new h = h.another.1 refl

-- the same, where the look came before
refused : RefusesZone 4 (1 ∷ []) (record old { view = record old.view { actor = record old.view.actor { glance = Some 0 } } }) (found 1) 1 1
refused = record {
  low = lit< tt;
  wanted = refl;
  another = ((λ e. cc e), (λ e. cc e), lit≤ tt);
  earlier = [];
  tries = refl;
  now = refl;
}

-- the second table is noted in place of the first
abbrev pub noted : ℕ → Seat
noted t = record (seat two_tables 0) { view = record (seat two_tables 0).view { noted = t } }

moved : Moves 0 (seat two_tables 0) (noted 1)
moved = record { tries = ([], refl); noted = lit≤ tt; listed = lit< tt; another = (λ e. cc e); now = refl }

not_the_same : Moves 0 (seat two_tables 0) (noted 0) → ⊥
not_the_same h = h.another refl

since : Since (seat two_tables 0) (noted 1)
since = record { tries = ([], refl); noted = lit≤ tt; now = refl }

not_back : Since (noted 1) (noted 0) → ⊥
not_back h = let le = h.noted in omega (arith, le)

-- two words in the shared table
two_words : spread (3 ∷ 5 ∷ []) ≡ 3 ∷ 0 ∷ 0 ∷ 0 ∷ 0 ∷ 0 ∷ 0 ∷ 0 ∷ 5 ∷ 0 ∷ 0 ∷ 0 ∷ 0 ∷ 0 ∷ 0 ∷ 0 ∷ []
two_words = refl
