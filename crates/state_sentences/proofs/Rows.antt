-- Worked rows: which circle is named for a state in which trains wait for one another, and which knot.
use Rattle.std.proofs.Common.{◌≡◌, ◌∷◌, [], ℕ, zero, suc, ◌+◌, ◌-◌, ◌<◌, List, length, get_or, false, refl, lit<, lit≤, arith}
use Rattle.std.proofs.lemmas.Bool.{false≢true}
use Rattle.std.specs.Prelude.{◌++◌, Some, pos, negsuc, codes}
use Rattle.std.specs.Fmt.{digits}
use Rattle.std.specs.Str.{chars}
use Rattle.rail_model.specs.Names.{Names}
use Rattle.rail_model.specs.Table.{Table, Mission, trains}
use Rattle.state_core.proofs.Tests.{core_is_tested}
use Rattle.state_sentences.specs.Circle.{waits_for, IsCircle, BeginsNone, IsCircleOrNone}
use Rattle.state_sentences.specs.Knot.{IsKnotOrNone}
use Rattle.state_sentences.specs.KnotWords.{knot_words}
use Rattle.state_sentences.specs.Sections.{called_words, section_words}
use Rattle.state_sentences.specs.Text.{cure_words, remedy_words}

abbrev from_to : ℕ → ℕ → Mission
from_to a b = record { points = a ∷ b ∷ []; exits = false }

-- T0 at A wants B, T1 at B wants C, T2 at C wants B, and T3 is alone
abbrev crossing : Table
crossing = record { missions = from_to 0 1 ∷ from_to 1 2 ∷ from_to 2 1 ∷ from_to 3 4 ∷ []; sections = []; connections = [] }

abbrev start : List ℕ
start = 0 ∷ 0 ∷ 0 ∷ 0 ∷ []

-- T1 and T2 wait for one another, from either on
facing : (i j : ℕ) → i < 4 → j < 4 → waits_for crossing start i ≡ Some j → waits_for crossing start j ≡ Some i → IsCircle crossing start (i ∷ j ∷ [])
facing i j lt_i lt_j there back = record {
  some = lit< tt;
  few = lit≤ tt;
  members = members;
  next = next;
  back = back;
}
  where
    members : (k : ℕ) → k < 2 → get_or (i ∷ j ∷ []) k 0 < trains crossing
    members zero lt = lt_i
    members (suc zero) lt = lt_j
    members (suc (suc k)) lt = absurd (omega (arith, lt))

    next : (k : ℕ) → k + 1 < 2 → waits_for crossing start (get_or (i ∷ j ∷ []) k 0) ≡ Some (get_or (i ∷ j ∷ []) (k + 1) 0)
    next zero lt = there
    next (suc k) lt = absurd (omega (arith, lt))

abbrev round : List ℕ
round = 1 ∷ 2 ∷ []

first : IsCircle crossing start round
first = facing 1 2 (lit< tt) (lit< tt) refl refl

-- nobody waits for T0
none_for_0 : (i : ℕ) → i < 4 → waits_for crossing start i ≡ Some 0 → ⊥
none_for_0 zero lt e = cc
none_for_0 (suc zero) lt e = cc
none_for_0 (suc (suc zero)) lt e = cc
none_for_0 (suc (suc (suc zero))) lt e = cc
none_for_0 (suc (suc (suc (suc i)))) lt e = omega (arith, lt)

-- the circle that is told
told : IsCircleOrNone crossing start round
told = (record { circle = first; first = refl; once = once }, least)
  where
    once : (j k : ℕ) → j < k → k < 2 → get_or round j 0 ≡ get_or round k 0 → ⊥
    once zero (suc zero) lt low same = omega (arith, same)
    once zero zero lt low same = omega (arith, lt)
    once (suc j) (suc zero) lt low same = omega (arith, lt)
    once (suc j) zero lt low same = omega (arith, lt)
    once j (suc (suc k)) lt low same = omega (arith, low)

    least : (k : ℕ) → k < 1 → BeginsNone crossing start k
    least zero lt later circle =
        none_for_0 _ (circle.members (length (0 ∷ later) - 1) (omega arith)) circle.back
    least (suc k) lt later circle = omega (arith, lt)

-- not from T2 on
from_the_other : IsCircleOrNone crossing start (2 ∷ 1 ∷ []) → ⊥
from_the_other told = told.1 1 (lit< tt) (2 ∷ []) first

-- not twice round
twice_round : IsCircleOrNone crossing start (1 ∷ 2 ∷ 1 ∷ 2 ∷ []) → ⊥
twice_round told = told.0.once 0 2 (lit< tt) (lit< tt) refl

-- not left out
left_out : IsCircleOrNone crossing start [] → ⊥
left_out none = none round first

-- ---- knots

-- T0 at M wants N, where T1 is; T1 wants K, and a section has no room for it beside T0
abbrev shut : Table
shut = record {
  missions = record { points = 0 ∷ 1 ∷ 2 ∷ 3 ∷ []; exits = false } ∷ record { points = 4 ∷ 2 ∷ 5 ∷ 6 ∷ []; exits = false } ∷ [];
  sections = record {
    limit = 1;
    changes = (pos 0 ∷ pos 1 ∷ negsuc 0 ∷ pos 0 ∷ []) ∷ (pos 0 ∷ pos 0 ∷ pos 1 ∷ negsuc 0 ∷ []) ∷ [];
  } ∷ [];
  connections = [];
}

abbrev both : List ℕ
both = 1 ∷ 1 ∷ []

abbrev names : Names
names = record { points = []; trains = codes "T0" ∷ codes "T1" ∷ [] }

-- the two trains are a core, so a knot is told
two_left_out : IsKnotOrNone shut both [] → ⊥
two_left_out none = none (0 ∷ 1 ∷ []) ((core_is_tested shut both (0 ∷ 1 ∷ [])).0 refl)

-- T1 alone is none
one_alone : IsKnotOrNone shut both (1 ∷ []) → ⊥
one_alone knot = false≢true ((core_is_tested shut both (1 ∷ [])).1 knot.core)

-- its words
two_told : knot_words names [] shut both [] (0 ∷ 1 ∷ [])
    ≡ codes "A knot: T0 waits for T1. T1 waits for section 0; T0 has 1. None of them can ever move.\n"
unfolding digits
two_told = refl

-- a knot with the trains of the circle isn't told again
circle_alone : knot_words names [] shut both (1 ∷ 0 ∷ []) (0 ∷ 1 ∷ []) ≡ []
circle_alone = refl

-- T1 has arrived where T0 has to pass
abbrev behind : Table
behind = record {
  missions = record { points = 0 ∷ 1 ∷ 2 ∷ []; exits = false } ∷ record { points = 3 ∷ 1 ∷ []; exits = false } ∷ [];
  sections = [];
  connections = [];
}

arrived_told : knot_words names [] behind (0 ∷ 1 ∷ []) [] (0 ∷ 1 ∷ [])
    ≡ codes "A knot: T0 waits for T1. T1 has arrived and stays. None of them can ever move.\n"
arrived_told = refl

arrived_cure : cure_words behind (0 ∷ 1 ∷ []) (0 ∷ 1 ∷ [])
    ≡ codes "A train of the knot has arrived where it is in the way: it has to come later, or to end elsewhere.\n"
arrived_cure = refl

section_cure : cure_words shut both (0 ∷ 1 ∷ []) ≡ remedy_words shut
section_cure = refl

-- each waits for the other by a connection
abbrev held : Table
held = record {
  missions = from_to 0 1 ∷ from_to 2 3 ∷ [];
  sections = [];
  connections =
      record { train = 0; place = 0; other = 1; reached = 1 } ∷ record { train = 1; place = 0; other = 0; reached = 1 } ∷ [];
}

connections_told : knot_words names [] held (0 ∷ 0 ∷ []) [] (0 ∷ 1 ∷ [])
    ≡ codes "A knot: T0 waits for T1 to come to place 1, by a connection. T1 waits for T0 to come to place 1, by a connection."
    ++ codes " None of them can ever move.\n"
unfolding digits
connections_told = refl

-- ---- what sections are called

called_by_name : called_words 0 (codes "corridor") ≡ codes "section \"corridor\""
unfolding chars lib.Utf8.encode
called_by_name = refl

-- a newline in a name ends no line
called_in_one_line : called_words 0 (97 ∷ 10 ∷ 98 ∷ []) ≡ codes "section \"a?b\""
unfolding chars lib.Utf8.encode
called_in_one_line = refl

called_by_number : called_words 1 [] ≡ codes "section 1"
unfolding digits
called_by_number = refl

-- a document names no sections
unnamed : section_words [] 1 ≡ codes "section 1"
unfolding digits
unnamed = refl
