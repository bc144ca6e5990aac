-- Worked crossings: which ways trains are on, which of them agree, what is wrong, and what sections let in.
use Rattle.std.proofs.Common.{◌≡◌, ℕ, List, [], ◌∷◌, true, false, Some, None, refl, arith}
use Rattle.clash_sections.specs.declared.meetings.Meeting.TheVariants.{Free, Clash, Never}
use Rattle.plan_crossings.specs.declared.refused.Fault.TheVariants.{NoInner, Common, Stray}
use Rattle.plan_crossings.specs.Crossings.{Crossing, inner, is_on, are_parallel}
use Rattle.plan_crossings.specs.Faults.{fault}
use Rattle.plan_crossings.specs.Sections.{WaySection, share, IsWithin, places}
use Rattle.plan_crossings.specs.Shapes.{scissors as scissors_of, ladder as ladder_of}
use Rattle.plan_crossings.specs.Stands.{stand_at, meet, section_of}
use Rattle.plan_crossings.specs.States.{Route, IsOn, WaysAgree}

-- Scissors: two tracks, 1 over 2 to 3 and 4 over 5 to 6, and two of the ways from one to the other.
abbrev scissors : Crossing
scissors = record {
  ways = (1 ∷ 2 ∷ 3 ∷ []) ∷ (4 ∷ 5 ∷ 6 ∷ []) ∷ (1 ∷ 2 ∷ 6 ∷ []) ∷ (4 ∷ 5 ∷ 3 ∷ []) ∷ [];
  parallel = (0 ∷ 1 ∷ []) ∷ [];
}

abbrev route : List ℕ → Route
route points = record { points = points; exits = false }

-- three trains: along the first track, back along the second, and from the first to the second
abbrev routes : List Route
routes = route (9 ∷ 1 ∷ 2 ∷ 3 ∷ []) ∷ route (6 ∷ 5 ∷ 4 ∷ []) ∷ record { points = 1 ∷ 2 ∷ 6 ∷ []; exits = true } ∷ []

inner-points : inner (1 ∷ 2 ∷ 7 ∷ 3 ∷ []) ≡ 2 ∷ 7 ∷ []
inner-points = refl

-- the first train is on its way at its third place alone
on-there : is_on (1 ∷ 2 ∷ 3 ∷ []) (9 ∷ 1 ∷ 2 ∷ 3 ∷ []) 2 ≡ true
on-there = refl

on-before : is_on (1 ∷ 2 ∷ 3 ∷ []) (9 ∷ 1 ∷ 2 ∷ 3 ∷ []) 1 ≡ false
on-before = refl

on-after : is_on (1 ∷ 2 ∷ 3 ∷ []) (9 ∷ 1 ∷ 2 ∷ 3 ∷ []) 3 ≡ false
on-after = refl

-- in either direction
on-back : is_on (4 ∷ 5 ∷ 6 ∷ []) (6 ∷ 5 ∷ 4 ∷ []) 1 ≡ true
on-back = refl

-- who turns there, begins there or goes elsewhere isn't on it
on-turning : is_on (1 ∷ 2 ∷ 3 ∷ []) (1 ∷ 2 ∷ 1 ∷ []) 1 ≡ false
on-turning = refl

on-beginning : is_on (1 ∷ 2 ∷ 3 ∷ []) (2 ∷ 3 ∷ []) 0 ≡ false
on-beginning = refl

on-elsewhere : is_on (1 ∷ 2 ∷ 3 ∷ []) (1 ∷ 2 ∷ 6 ∷ []) 1 ≡ false
on-elsewhere = refl

-- the two tracks are parallel, and no way is parallel to itself
tracks-parallel : are_parallel scissors 1 0 ≡ true
tracks-parallel = refl

itself-parallel : are_parallel scissors 0 0 ≡ false
itself-parallel = refl

way-parallel : are_parallel scissors 0 2 ≡ false
way-parallel = refl

stand-of_the_third : stand_at scissors (1 ∷ 2 ∷ 6 ∷ []) 1 ≡ false ∷ false ∷ true ∷ false ∷ []
stand-of_the_third = refl

-- trains on the two tracks may be there at once; over the points of the first track the tracks keep trains apart
meet-tracks : meet scissors (true ∷ false ∷ false ∷ false ∷ []) (false ∷ true ∷ false ∷ false ∷ []) ≡ Free
meet-tracks = refl

meet-point : meet scissors (true ∷ false ∷ false ∷ false ∷ []) (false ∷ false ∷ true ∷ false ∷ []) ≡ Never
meet-point = refl

meet-way : meet scissors (false ∷ true ∷ false ∷ false ∷ []) (false ∷ false ∷ true ∷ false ∷ []) ≡ Clash
meet-way = refl

-- nothing is wrong with them
no-fault : fault routes scissors ≡ None
no-fault = refl

-- a way of two points, parallel ways with a common point, and a train that turns in the crossing
bare-fault : fault [] (record { ways = (1 ∷ 2 ∷ 3 ∷ []) ∷ (1 ∷ 3 ∷ []) ∷ []; parallel = [] }) ≡ Some (NoInner 1)
bare-fault = refl

common-fault : fault [] (record scissors { parallel = (0 ∷ 1 ∷ []) ∷ (3 ∷ 1 ∷ []) ∷ [] }) ≡ Some (Common 1 3)
common-fault = refl

stray-fault : fault (route (9 ∷ 1 ∷ []) ∷ route (1 ∷ 2 ∷ 1 ∷ []) ∷ []) scissors ≡ Some (Stray 1 1)
stray-fault = refl

-- with the first train and the second within the scissors the ways agree; with the second and the third they don't
first-on : IsOn scissors routes (2 ∷ 1 ∷ 0 ∷ []) 0 0
first-on = record { is_train = omega arith; is_in = omega arith; is_way = omega arith; is_there = refl }

third-disagrees : WaysAgree routes (0 ∷ 1 ∷ 1 ∷ []) scissors → ⊥
third-disagrees agree =
    let e : false ≡ true = agree 1 2 1 2 (λ e. omega arith)
    (record { is_train = omega arith; is_in = omega arith; is_way = omega arith; is_there = refl })
    (record { is_train = omega arith; is_in = omega arith; is_way = omega arith; is_there = refl }) in
    cc

-- a section by stands by the numbers of the stands: a way from one track to the other takes all of it
abbrev section : WaySection
section =
    section_of ((Some 0 ∷ Some 0 ∷ Some 1 ∷ Some 0 ∷ []) ∷ (Some 0 ∷ Some 1 ∷ Some 0 ∷ []) ∷ (Some 0 ∷ Some 2 ∷ Some 0 ∷ None ∷ []) ∷ [])
    (record { limit = 2; shares = 0 ∷ 1 ∷ 2 ∷ [] })

section-share : share section 2 1 ≡ 2
section-share = refl

first-and-second : IsWithin routes (2 ∷ 1 ∷ 0 ∷ []) section
first-and-second = omega arith

second-and-third : IsWithin routes (0 ∷ 1 ∷ 1 ∷ []) section → ⊥
second-and-third h = omega arith

places-after_an_exit : places (record { points = 1 ∷ 2 ∷ 6 ∷ []; exits = true }) ≡ 4
places-after_an_exit = refl

-- scissors of the tracks 1-2-3 and 4-5-6, and a ladder at 2 with two leads and two roads
scissors-ways : scissors_of (record { from = 1; over = 2; to = 3 }) (record { from = 4; over = 5; to = 6 })
    ≡ record {
      ways = (1 ∷ 2 ∷ 3 ∷ []) ∷ (4 ∷ 5 ∷ 6 ∷ []) ∷ (1 ∷ 2 ∷ 6 ∷ []) ∷ (1 ∷ 5 ∷ 6 ∷ []) ∷ (4 ∷ 5 ∷ 3 ∷ []) ∷ (4 ∷ 2 ∷ 3 ∷ []) ∷ [];
      parallel = (0 ∷ 1 ∷ []) ∷ [];
    }
scissors-ways = refl

ladder-ways : (ladder_of 2 (1 ∷ 9 ∷ []) (3 ∷ 4 ∷ [])).ways ≡ (1 ∷ 2 ∷ 3 ∷ []) ∷ (1 ∷ 2 ∷ 4 ∷ []) ∷ (9 ∷ 2 ∷ 3 ∷ []) ∷ (9 ∷ 2 ∷ 4 ∷ []) ∷ []
ladder-ways = refl
