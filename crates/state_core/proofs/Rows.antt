-- Worked cores and guards: a corridor, a passing loop, a line of three, sections and connections.
use Rattle.std.proofs.Common.{◌≡◌, ℕ, zero, suc, ◌<◌, List, [], ◌∷◌, pos, negsuc, Bool, false, true, ◌&&◌, ◌||◌, Some, None, refl, arith, lit<, subst}
use Rattle.std.proofs.lemmas.Bool.{false≢true}
use Rattle.rail_model.specs.Table.{Table, point, place, last}
use Rattle.rail_model.proofs.Samples.{open_corridor, loop, waiting}
use Rattle.forbidden_states.specs.Forbid.{Stay}
use Rattle.state_core.specs.Core.{has, is_core, is_kept, IsCore}
use Rattle.state_core.specs.Keeper.{keeper}
use Rattle.state_core.specs.declared.keepers.Keeper.TheVariants.{Train, Section, Connection}
use Rattle.state_core.specs.Least.{IsWithin, IsLeastCore}
use Rattle.state_core.specs.Guard.{stay_at, stays_of, guarded}
use Rattle.state_core.specs.Trap.{group_of}
use Rattle.state_core.proofs.Tests.{Decides-kept, core_is_tested}

-- in the corridor the trains stand face to face
corridor-core : is_core open_corridor (1 ∷ 1 ∷ []) (0 ∷ 1 ∷ []) ≡ true
corridor-core = refl

-- one of them alone isn't kept by itself
corridor-alone : is_core open_corridor (1 ∷ 1 ∷ []) (0 ∷ []) ≡ false
corridor-alone = refl

corridor-stays : stays_of open_corridor (1 ∷ 1 ∷ []) (1 ∷ 0 ∷ []) ≡ stay_at (1 ∷ 1 ∷ []) 0 ∷ stay_at (1 ∷ 1 ∷ []) 1 ∷ []
corridor-stays = refl

-- the guard: not both at their first inner points
corridor-guard : (guarded open_corridor (stays_of open_corridor (1 ∷ 1 ∷ []) (0 ∷ 1 ∷ []) ∷ [])).sections
    ≡ (record {
      limit =
          1;
      changes = (pos 0 ∷ pos 1 ∷ negsuc 0 ∷ pos 0 ∷ []) ∷ (pos 0 ∷ pos 1 ∷ negsuc 0 ∷ pos 0 ∷ []) ∷ [];
    }) ∷ []
corridor-guard = refl

-- with the guard, one train in the corridor and one before it aren't a core: the first can go on
corridor-guarded : is_core (guarded open_corridor ((stay_at (1 ∷ 1 ∷ []) 0 ∷ stay_at (1 ∷ 1 ∷ []) 1 ∷ []) ∷ []))
    (1 ∷ 0 ∷ []) (0 ∷ 1 ∷ []) ≡ false
corridor-guarded = refl

-- in a passing loop the trains pass each other
loop-none : is_core loop (1 ∷ 1 ∷ []) (0 ∷ 1 ∷ []) ≡ false
loop-none = refl

-- a line of three: the first train ends before the others
abbrev three : Table
three = record {
  missions =
      record { points = 0 ∷ 1 ∷ 2 ∷ []; exits = false } ∷ record { points = 0 ∷ 1 ∷ 2 ∷ 3 ∷ []; exits = false }
      ∷ record { points = 0 ∷ 1 ∷ 2 ∷ 3 ∷ []; exits = false } ∷ [];
  sections = [];
  connections = [];
}

-- it has arrived, and the second never passes it
three-core : is_core three (2 ∷ 1 ∷ 0 ∷ []) (0 ∷ 1 ∷ []) ≡ true
three-core = refl

-- the third is kept too, but the second isn't kept by the third
three-last : is_core three (2 ∷ 1 ∷ 0 ∷ []) (1 ∷ 2 ∷ []) ≡ false
three-last = refl

-- a train that has arrived is no core by itself
three-arrived : is_core three (2 ∷ 1 ∷ 0 ∷ []) (0 ∷ []) ≡ false
three-arrived = refl

-- a longer corridor with two guards: each train's next place is shut by the other's share
abbrev long : Table
long = record {
  missions =
      record {
        points =
            0 ∷ 1 ∷ 2 ∷ 3 ∷ 4 ∷ [];
        exits = false;
      } ∷ record { points = 5 ∷ 3 ∷ 2 ∷ 1 ∷ 6 ∷ []; exits = false } ∷ [];
  sections = [];
  connections = [];
}

abbrev stays : ℕ → ℕ → List Stay
stays a b = stay_at (a ∷ b ∷ []) 0 ∷ stay_at (a ∷ b ∷ []) 1 ∷ []

long-core : is_core (guarded long (stays 1 2 ∷ stays 2 1 ∷ [])) (1 ∷ 1 ∷ []) (0 ∷ 1 ∷ []) ≡ true
long-core = refl

-- a connection whose other train can go on keeps nobody
waiting-none : is_core waiting (0 ∷ 0 ∷ []) (0 ∷ 1 ∷ []) ≡ false
waiting-none = refl

-- two that wait for each other
waiting-core : is_core (record waiting {
  connections =
      record {
        train =
            0;
        place = 0;
        other = 1;
        reached = 1;
      } ∷ record { train = 1; place = 0; other = 0; reached = 1 } ∷ [];
}) (0 ∷ 0 ∷ []) (0 ∷ 1 ∷ []) ≡ true
waiting-core = refl

-- in the longer corridor, each at its first or its second inner point: a trap
abbrev trap : List Stay
trap =
    record {
      train =
          0;
      range = record { lo = 1; hi = 2 };
    } ∷ record { train = 1; range = record { lo = 1; hi = 2 } } ∷ []

trap-group : group_of trap ≡ 0 ∷ 1 ∷ []
trap-group = refl

-- the first is kept at its end by the second at its beginning, and the other way round; both can't be at their ends at
-- once
trap-first : is_kept long (2 ∷ 1 ∷ []) (group_of trap) 0 ≡ true
trap-first = refl

trap-second : is_kept long (1 ∷ 2 ∷ []) (group_of trap) 1 ≡ true
trap-second = refl

trap-ends : point long 0 2 ≡ point long 1 2
trap-ends = refl

-- with a third place of the first train it is none: from there the second at its end doesn't keep it
trap-too_long : is_kept long (3 ∷ 2 ∷ []) (group_of trap) 0 ≡ false
trap-too_long = refl

-- ---- what keeps a train, and least cores

-- in the corridor the other train keeps each
corridor-keeper : keeper open_corridor (1 ∷ 1 ∷ []) (0 ∷ 1 ∷ []) 0 ≡ Some (Train 1)
corridor-keeper = refl

-- in the longer corridor with a guard, its section does
long-keeper : keeper (guarded long (stays 2 1 ∷ [])) (1 ∷ 1 ∷ []) (0 ∷ 1 ∷ []) 0 ≡ Some (Section 0)
long-keeper = refl

-- and here a connection, until the other has come to place 1
waiting-keeper : keeper waiting (0 ∷ 0 ∷ []) (0 ∷ 1 ∷ []) 0 ≡ Some (Connection 1 1)
waiting-keeper = refl

-- no train of the group keeps the second of three
three-keeper : keeper three (2 ∷ 1 ∷ 0 ∷ []) (1 ∷ 2 ∷ []) 1 ≡ None
three-keeper = refl

-- all three are a core, but not a least one: the third can be left out
all-three : is_core three (2 ∷ 1 ∷ 0 ∷ []) (0 ∷ 1 ∷ 2 ∷ []) ≡ true
all-three = refl

part-or_all : (i : ℕ) → i < 3 → has (0 ∷ 1 ∷ []) i ≡ true → has (0 ∷ 1 ∷ 2 ∷ []) i ≡ true
part-or_all zero lt member = refl
part-or_all (suc zero) lt member = refl
part-or_all (suc (suc zero)) lt member = refl
part-or_all (suc (suc (suc i))) lt member = absurd (omega (arith, lt))

three-not_least : IsLeastCore three (2 ∷ 1 ∷ 0 ∷ []) (0 ∷ 1 ∷ 2 ∷ []) → ⊥
three-not_least all =
    let part : IsCore three (2 ∷ 1 ∷ 0 ∷ []) (0 ∷ 1 ∷ []) = (core_is_tested three (2 ∷ 1 ∷ 0 ∷ []) (0 ∷ 1 ∷ [])).0 refl in
    false≢true (all.least (0 ∷ 1 ∷ []) part part-or_all 2 (lit< tt) refl)

-- a core within the first two has the second, since the first has arrived
second : (i : ℕ) → i < 3 → has (0 ∷ 1 ∷ []) i ≡ true → place (2 ∷ 1 ∷ 0 ∷ []) i < last three i → i ≡ 1
second zero lt member low = absurd (omega (arith, low))
second (suc zero) lt member low = refl
second (suc (suc zero)) lt member low = absurd (false≢true member)
second (suc (suc (suc i))) lt member low = absurd (omega (arith, lt))

first_blocks : (a b c : Bool) → (((a && true) || ((b && false) || ((c && false) || false))) || (false || false)) ≡ true → a ≡ true
first_blocks true b c kept = refl
first_blocks false true true kept = kept
first_blocks false true false kept = kept
first_blocks false false true kept = kept
first_blocks false false false kept = kept

-- so it has the first, too, which alone keeps the second: the two are a least core
three-least : IsLeastCore three (2 ∷ 1 ∷ 0 ∷ []) (0 ∷ 1 ∷ [])
three-least = record { core = (core_is_tested three (2 ∷ 1 ∷ 0 ∷ []) (0 ∷ 1 ∷ [])).0 refl; least = least }
  where
    has_second : (part : List ℕ) → IsCore three (2 ∷ 1 ∷ 0 ∷ []) part → IsWithin three part (0 ∷ 1 ∷ []) → has part 1 ≡ true
    has_second part core within =
        let u = core.unfinished in
        subst (λ i. has part i ≡ true) (second u.0 u.1 (within u.0 u.1 u.2) u.3) u.2

    has_first : (part : List ℕ) → IsCore three (2 ∷ 1 ∷ 0 ∷ []) part → IsWithin three part (0 ∷ 1 ∷ []) → has part 0 ≡ true
    has_first part core within =
        first_blocks (has part 0) (has part 1) (has part 2)
        ((Decides-kept three (2 ∷ 1 ∷ 0 ∷ []) part 1).1 (core.kept 1 (lit< tt) (has_second part core within) (lit< tt)))

    least : (part : List ℕ) → IsCore three (2 ∷ 1 ∷ 0 ∷ []) part → IsWithin three part (0 ∷ 1 ∷ [])
        → (i : ℕ) → i < 3 → has (0 ∷ 1 ∷ []) i ≡ true → has part i ≡ true
    least part core within zero lt member = has_first part core within
    least part core within (suc zero) lt member = has_second part core within
    least part core within (suc (suc zero)) lt member = absurd (false≢true member)
    least part core within (suc (suc (suc i))) lt member = absurd (omega (arith, lt))
