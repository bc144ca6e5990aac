-- Worked rows: T1 stands at a point that T0 and T2 want, and all three have a want, in the order of their numbers.
use Rattle.std.proofs.Common.{◌≡◌, ℕ, zero, suc, ◌<◌, ◌≤◌, List, ◌∷◌, [], true, false, refl, inl, inr, lit<, lit≤, arith}
use Rattle.rail_model.specs.Table.{Table}
use Rattle.rail_model.proofs.MoveTests.{Decides-move, is_move}
use Rattle.live_yard.specs.Firing.{CanFire, DispatchState, IsNextWant, IsSettled, Settles, fired}
use Rattle.live_yard.specs.Telling.{MayGo}

-- A B, B C and D B
abbrev junction : Table
junction = record {
  missions = record { points = 0 ∷ 1 ∷ []; exits = false } ∷ record { points = 1 ∷ 2 ∷ []; exits = false }
      ∷ record { points = 3 ∷ 1 ∷ []; exits = false } ∷ [];
  sections = [];
  connections = [];
}

abbrev state : DispatchState
state = record {
  yard = record {
    run = record {
      tables = record { table = junction; after = 0 } ∷ [];
      yard = record { positions = 0 ∷ 0 ∷ 0 ∷ []; table = 0; tried = 0; moves = 0 };
      lines = [];
      room = 4080;
    };
    there = 0 ∷ 0 ∷ 0 ∷ [];
    reports = false;
  };
  wants = 0 ∷ 1 ∷ 2 ∷ [];
}

may_go : (p : List ℕ) (i : ℕ) → is_move junction p i ≡ true → MayGo junction p p i
may_go p i moves = record {
  moves = (Decides-move junction p i).0 moves;
  there = refl;
  left = λ j leaving. omega (arith, leaving.1.2.1, leaving.1.2.2);
  cleared = λ s clearing. omega (arith, clearing.0);
}

has_to_wait : (p : List ℕ) (i : ℕ) → is_move junction p i ≡ false → MayGo junction p p i → ⊥
has_to_wait p i stays may = let moves : is_move junction p i ≡ true = (Decides-move junction p i).1 may.moves in cc

t0_waits : (k : ℕ) → k < 1 → CanFire state k → ⊥
t0_waits zero below can = has_to_wait (0 ∷ 0 ∷ 0 ∷ []) 0 refl can.1
t0_waits (suc k) below can = omega (arith, below)

t1_can : CanFire state 1
t1_can = (lit< tt, may_go (0 ∷ 0 ∷ 0 ∷ []) 1 refl)

t1_is_first : IsNextWant state 0 1
t1_is_first = inl ((lit≤ tt, t1_can), λ k below can. t0_waits k below can.1)

-- behind T1 none can be granted, so it is sought from the first again
none_behind : (k : ℕ) → 2 ≤ k → CanFire state k → ⊥
none_behind zero from can = omega (arith, from)
none_behind (suc zero) from can = omega (arith, from)
none_behind (suc (suc zero)) from can = has_to_wait (0 ∷ 0 ∷ 0 ∷ []) 2 refl can.1
none_behind (suc (suc (suc k))) from can = omega (arith, can.0)

from_the_first_again : IsNextWant state 2 1
from_the_first_again = inr (none_behind, (t1_can, t0_waits))

-- T2 stood behind T1 and is next, though T0 came before it and could be granted, too
t2_can : CanFire (fired state 1) 1
t2_can = (lit< tt, may_go (0 ∷ 1 ∷ 0 ∷ []) 2 refl)

t2_is_next : IsNextWant (fired state 1) 1 1
t2_is_next = inl ((lit≤ tt, t2_can), λ k below can. omega (arith, below, can.0))

t0_could : CanFire (fired state 1) 0
t0_could = (lit< tt, may_go (0 ∷ 1 ∷ 0 ∷ []) 0 refl)

t0_isnt_next : IsNextWant (fired state 1) 1 0 → ⊥
t0_isnt_next next = elim next [ inl behind ↦ omega (arith, behind.0.0) | inr before ↦ before.0 1 (lit≤ tt) t2_can ]

t0_waits_on : IsSettled (fired (fired state 1) 1)
t0_waits_on zero can = has_to_wait (0 ∷ 1 ∷ 1 ∷ []) 0 refl can.1
t0_waits_on (suc k) can = omega (arith, can.0)

two_are_granted : Settles state (fired (fired state 1) 1) 2
two_are_granted = record {
  wants = 1 ∷ 1 ∷ [];
  number = refl;
  fires = (t1_is_first, (t2_is_next, refl));
  settled = t0_waits_on;
}
