-- Worked rows and a law: which times are said for the steps of a route.
use Rattle.std.proofs.Common.{◌≡◌, suc, pos, List, [], ◌∷◌, length, zip, true, false, Some, None, String, Global, string_bytes, codes, refl, ap}
use Rattle.toml.specs.Data.{Data, no_members, member, integer, table}
use Rattle.plan_making.specs.Timed.{default_in, default_or, dwell_at, link, running_time, step_time, steps, times_said, usual_time}

-- the same number for all steps
pub for_all : default_in (integer (pos 4)) ≡ Some (pos 4)
for_all = refl

-- 3 from A to B, and 2 for all other steps
abbrev pub times : Data
times = table (member (codes "A B") (integer (pos 3)) (member (codes "default") (integer (pos 2)) no_members))

pub for_others : default_in times ≡ Some (pos 2)
for_others = refl

-- another number, only where none is said for all others
pub said_for_others : default_or (Some times) (pos 7) ≡ pos 2
said_for_others = refl

pub none_for_others : default_or None (pos 7) ≡ pos 7
none_for_others = refl

-- 1, where nothing is said
pub nothing_said : usual_time None ≡ pos 1
nothing_said = refl

-- 1 for the steps that have none of their own, where no number is said for these
pub no_default : usual_time (Some (table (member (codes "A B") (integer (pos 3)) no_members))) ≡ pos 1
no_default = refl

-- the points A, B and C
pub record Corridor (a b c : String Global) : Type 0 where
  pub at_a : string_bytes a ≡ codes "A"
  pub at_b : string_bytes b ≡ codes "B"
  pub at_c : string_bytes c ≡ codes "C"

pub the_link : (a b c : String Global) → Corridor a b c → link a b ≡ codes "A B"
the_link a b c at = rw (at.at_a, at.at_b)

-- a link's own time is that from its first point to the other, and not for the way back
pub own_time : (a b c : String Global) → Corridor a b c → running_time (Some times) a b ≡ pos 3
own_time a b c at = rw (at.at_a, at.at_b)

pub way_back : (a b c : String Global) → Corridor a b c → running_time (Some times) b a ≡ pos 2
way_back a b c at = rw (at.at_a, at.at_b)

-- from A over B to C: 3 and 2, and 2 for the step out of the layout, if the train exits
pub stays : (a b c : String Global) → Corridor a b c → times_said (Some times) None (a ∷ b ∷ c ∷ []) false ≡ pos 3 ∷ pos 2 ∷ []
stays a b c at = rw (at.at_a, at.at_b)

pub leaves : (a b c : String Global) → Corridor a b c → times_said (Some times) None (a ∷ b ∷ c ∷ []) true ≡ pos 3 ∷ pos 2 ∷ pos 2 ∷ []
leaves a b c at = rw (at.at_a, at.at_b)

-- a route of one point has no step but that out of the layout
pub only_out : (a : String Global) → times_said None None (a ∷ []) true ≡ pos 1 ∷ []
only_out a = refl

-- 1 at B, and 4 at all other points
abbrev pub dwell : Data
dwell = table (member (codes "B") (integer (pos 1)) (member (codes "default") (integer (pos 4)) no_members))

pub its_own : (a b c : String Global) → Corridor a b c → dwell_at (Some dwell) b ≡ pos 1
its_own a b c at = rw at.at_b

pub as_at_others : (a b c : String Global) → Corridor a b c → dwell_at (Some dwell) c ≡ pos 4
as_at_others a b c at = rw at.at_c

-- the same number at all points
pub at_all : (a : String Global) → dwell_at (Some (integer (pos 3))) a ≡ pos 3
at_all a = refl

-- 0, where nothing is said, and at the points that aren't named, where no number is said for these
pub does_not_stand : (a : String Global) → dwell_at None a ≡ pos 0
does_not_stand a = refl

pub not_at_others : (a b c : String Global) → Corridor a b c → dwell_at (Some (table (member (codes "B") (integer (pos 1)) no_members))) a ≡ pos 0
not_at_others a b c at = rw at.at_a

-- a step takes its running time, and the dwell at the point to which it leads: 3 and 1 from A to B, 2 and 4 from B to A
pub comes_to_b : (a b c : String Global) → Corridor a b c → step_time (Some times) (Some dwell) a b ≡ pos 4
comes_to_b a b c at = rw (at.at_a, at.at_b)

pub comes_to_a : (a b c : String Global) → Corridor a b c → step_time (Some times) (Some dwell) b a ≡ pos 6
comes_to_a a b c at = rw (at.at_a, at.at_b)

-- no sum is cut off
pub greatest : (a b : String Global) → step_time (Some (integer (pos 9223372036854775807))) (Some (integer (pos 9223372036854775807))) a b ≡ pos 18446744073709551614
greatest a b = refl

-- from A over B to C: 3 and 1, then 2 and 4; nothing at A, where the route begins, and 2 alone for the step out of the layout
pub stands : (a b c : String Global) → Corridor a b c → times_said (Some times) (Some dwell) (a ∷ b ∷ c ∷ []) true ≡ pos 4 ∷ pos 6 ∷ pos 2 ∷ []
stands a b c at = rw (at.at_a, at.at_b, at.at_c)

pub stands_alike : (a b c : String Global) → Corridor a b c → times_said (Some times) (Some (integer (pos 3))) (a ∷ b ∷ c ∷ []) true ≡ pos 6 ∷ pos 5 ∷ pos 2 ∷ []
stands_alike a b c at = rw (at.at_a, at.at_b)

-- it stands at a point each time that it comes to it: from A to B, back and to B again it has been at B two times, and at A once
pub stands_twice : (a b c : String Global) → Corridor a b c → times_said None (Some dwell) (a ∷ b ∷ a ∷ b ∷ []) true ≡ pos 2 ∷ pos 5 ∷ pos 2 ∷ pos 1 ∷ []
stands_twice a b c at = rw (at.at_a, at.at_b)

-- the law: a route has one step less than points
count_steps : (first : String Global) (later : List (String Global)) → length (zip (first ∷ later) later) ≡ length later
count_steps first [] = refl
count_steps first (next ∷ later) = ap suc (count_steps next later)

pub as_many_steps : (first : String Global) (later : List (String Global)) → length (steps (first ∷ later)) ≡ length later
as_many_steps first later = count_steps first later
