-- Worked rows: sections of two trains, IC and RE, of which the one goes from A over M to B and to M again, and the other from B to A.
use Rattle.std.proofs.Common.{◌≡◌, ℕ, List, [], ◌∷◌, Bool, true, false, String, Vec, None, Some, pos, codes, lit<, refl}
use Rattle.std.specs.Fmt.{digits}
use Rattle.std.specs.declared.alloc.Global.{Global}
use Rattle.toml.specs.Data.{Data, Members, no_items, item, no_members, member, string, integer, array, table}
use Rattle.plan_reading.specs.Held.{are_shares, has_shares, said_share, stretch_of, weight_for}
use Rattle.plan_reading.proofs.PlaceRows.{a, b, route}
use Rattle.plan_patterns.proofs.GivenTexts.{text_of, vec_of}

abbrev ic : String Global → String Global
ic s = text_of s (codes "IC") (lit< tt) refl

abbrev re : String Global → String Global
re s = text_of s (codes "RE") (lit< tt) refl

abbrev back : String Global → List (String Global)
back s = b s ∷ a s ∷ []

-- a weight of its own for RE, 3, and 2 for all others
abbrev by_names : Data
by_names = table (member [] (integer (pos 2)) (member (codes "RE") (integer (pos 3)) no_members))

abbrev weights : Data
weights = table (member (codes "weight") by_names no_members)

pub own_weight : weight_for weights (codes "RE") ≡ pos 3
own_weight = refl

pub weight_for_all : weight_for weights (codes "IC") ≡ pos 2
weight_for_all = refl

pub one_number : weight_for (table (member (codes "weight") (integer (pos 4)) no_members)) (codes "IC") ≡ pos 4
one_number = refl

pub no_weight : weight_for (table no_members) (codes "IC") ≡ pos 1
no_weight = refl

-- the same, where `default` is for all others
abbrev beside_default : Data
beside_default = table (member (codes "RE") (integer (pos 3)) (member (codes "default") (integer (pos 2)) no_members))

abbrev with_default : Data
with_default = table (member (codes "weight") beside_default no_members)

pub own_beside_default : weight_for with_default (codes "RE") ≡ pos 3
own_beside_default = refl

pub by_default : weight_for with_default (codes "IC") ≡ pos 2
by_default = refl

-- IC exits after its route, and RE doesn't
abbrev exits : List Bool
exits = true ∷ false ∷ []

-- the routes of the two trains
abbrev routes : String Global → Vec (String Global) Global → List (Vec (String Global) Global)
routes s v = vec_of v (route s) (lit< tt) ∷ vec_of v (back s) (lit< tt) ∷ []

-- a section at B, with the weights above
abbrev at_b : Data
at_b = table (member (codes "points") (array (item (string (codes "B")) no_items)) (member (codes "weight") by_names no_members))

-- IC goes from A over M to B and to M again, and exits: 2 at B, and nothing after its exit
pub both : (s : String Global) → has_shares at_b (ic s) (route s) true (0 ∷ 0 ∷ 2 ∷ 0 ∷ 0 ∷ []) ≡ true
both s = refl

pub no_exit : (s : String Global) → has_shares at_b (ic s) (route s) false (0 ∷ 0 ∷ 2 ∷ 0 ∷ 0 ∷ []) ≡ false
no_exit s = refl

pub too_late : (s : String Global) → has_shares at_b (ic s) (route s) true (0 ∷ 0 ∷ 0 ∷ 2 ∷ 0 ∷ []) ≡ false
too_late s = refl

-- RE goes from B to A, and doesn't exit: 3 at B
pub its_own : (s : String Global) → has_shares at_b (re s) (back s) false (3 ∷ 0 ∷ []) ≡ true
its_own s = refl

abbrev of_ic : Vec ℕ Global → Vec ℕ Global
of_ic w = vec_of w (0 ∷ 0 ∷ 2 ∷ 0 ∷ 0 ∷ []) (lit< tt)

abbrev of_re : Vec ℕ Global → Vec ℕ Global
of_re w = vec_of w (3 ∷ 0 ∷ []) (lit< tt)

pub for_both : (s : String Global) (v : Vec (String Global) Global) (w : Vec ℕ Global)
    → are_shares at_b (ic s ∷ re s ∷ []) (routes s v) exits (of_ic w ∷ of_re w ∷ []) ≡ true
for_both s v w = refl

pub exchanged : (s : String Global) (v : Vec (String Global) Global) (w : Vec ℕ Global)
    → are_shares at_b (ic s ∷ re s ∷ []) (routes s v) exits (of_re w ∷ of_ic w ∷ []) ≡ false
exchanged s v w = refl

pub one_short : (s : String Global) (v : Vec (String Global) Global) → are_shares at_b (ic s ∷ re s ∷ []) (routes s v) exits [] ≡ false
one_short s v = refl

-- only for RE, from B on: nothing for IC
abbrev for_one : Data
for_one =
    table (member (codes "from") (string (codes "B")) (member (codes "only") (array (item (string (codes "RE")) no_items)) no_members))

pub meant : (s : String Global) → has_shares for_one (re s) (back s) false (1 ∷ 1 ∷ []) ≡ true
meant s = refl

pub not_meant : (s : String Global) → has_shares for_one (ic s) (route s) false (0 ∷ 0 ∷ 0 ∷ 0 ∷ []) ≡ true
not_meant s = refl

-- from the first M until before the second, at all points
abbrev between : Data
between = table (member (codes "from") (string (codes "M#1")) (member (codes "to") (string (codes "M#2")) no_members))

pub stretch : (s : String Global) → has_shares between (ic s) (route s) true (0 ∷ 1 ∷ 1 ∷ 0 ∷ 0 ∷ []) ≡ true
unfolding digits
stretch s = refl

pub too_long : (s : String Global) → has_shares between (ic s) (route s) true (0 ∷ 1 ∷ 1 ∷ 1 ∷ 0 ∷ []) ≡ false
unfolding digits
too_long s = refl

-- RE doesn't come to M, and takes nothing
pub not_there : (s : String Global) → has_shares between (re s) (back s) false (0 ∷ 0 ∷ []) ≡ true
unfolding digits
not_there s = refl

-- from B for RE, and until before a third M, to which no train comes: to the end of the route
abbrev from_b : Data
from_b = table (member (codes "RE") (string (codes "B")) no_members)

abbrev to_the_end : Data
to_the_end = table (member (codes "from") from_b (member (codes "to") (string (codes "M#3")) no_members))

pub end_of_its_route : (s : String Global) → stretch_of to_the_end (codes "RE") (back s) ≡ record { from = Some 0; until = None }
unfolding digits
end_of_its_route s = refl

pub whole_route : (s : String Global) → has_shares to_the_end (ic s) (route s) false (1 ∷ 1 ∷ 1 ∷ 1 ∷ []) ≡ true
unfolding digits
whole_route s = refl

-- a section without points and without a stretch takes nothing
pub no_points : (s : String Global) → has_shares (table no_members) (ic s) (route s) false (0 ∷ 0 ∷ 0 ∷ 0 ∷ []) ≡ true
no_points s = refl

-- IC has 4 after its exit, 2 from the second M on, 1 from B until then, and 3 until B; RE isn't named
abbrev later : Members
later = member (codes "M#2") (integer (pos 2)) (member (codes "start") (integer (pos 3)) no_members)

abbrev by_places : Data
by_places = table (member (codes "-") (integer (pos 4)) (member (codes "B") (integer (pos 1)) later))

-- a section in which IC has the shares of these numbers
abbrev held_by : Data → Data
held_by said = table (member (codes "holds") (table (member (codes "IC") said no_members)) no_members)

abbrev holds : Data
holds = held_by by_places

pub before_the_first_name : (s : String Global) → said_share holds (ic s) (route s) 1 ≡ pos 3
unfolding digits
before_the_first_name s = refl

pub from_there_on : (s : String Global) → said_share holds (ic s) (route s) 2 ≡ pos 1
unfolding digits
from_there_on s = refl

pub until_the_next : (s : String Global) → said_share holds (ic s) (route s) 3 ≡ pos 2
unfolding digits
until_the_next s = refl

pub after_the_exit : (s : String Global) → said_share holds (ic s) (route s) 4 ≡ pos 4
after_the_exit s = refl

pub held_in_all : (s : String Global) → has_shares holds (ic s) (route s) true (3 ∷ 3 ∷ 1 ∷ 2 ∷ 4 ∷ []) ≡ true
unfolding digits
held_in_all s = refl

pub without_start : (s : String Global) → said_share (held_by (table no_members)) (ic s) (route s) 1 ≡ pos 0
without_start s = refl

pub not_named : (s : String Global) → has_shares holds (re s) (back s) false (0 ∷ 0 ∷ []) ≡ true
unfolding digits
not_named s = refl
