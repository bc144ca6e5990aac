-- Worked rows: what is said of a train in a table, and which entries are what stands at their places.
use Rattle.std.proofs.Common.{◌≡◌, ℕ, List, [], ◌∷◌, pos, negsuc, Bool, true, false, String, Global, Some, None, codes, lit<, refl}
use Rattle.toml.specs.Data.{Data, Items, no_items, item, Members, no_members, member, string, integer, boolean, array, table, as_integer}
use Rattle.plan_reading.specs.Agreeing.{agree_all, is_due, is_exit, is_number, says_yes, starts_at, text_at, value_at}
use Rattle.plan_reading.specs.Said.{change_of, entries_in, first_named, has_zones, own_of, said_at}
use Rattle.plan_patterns.proofs.GivenTexts.{text_of}

-- a train that says nothing of its start starts at its first place
pub at_first : starts_at None [] 0 ≡ true
at_first = refl

pub not_later : starts_at None [] 1 ≡ false
not_later = refl

-- a train of the name IC that exits, and one of the name RE
abbrev ic : Data
ic = table (member (codes "exit") (boolean true) (member (codes "name") (string (codes "IC")) no_members))

abbrev re : Data
re = table (member (codes "name") (string (codes "RE")) no_members)

pub its_name : text_at (codes "name") ic ≡ Some (codes "IC")
its_name = refl

pub leaves : says_yes (value_at (codes "exit") (Some ic)) ≡ true
leaves = refl

pub stays : is_exit (value_at (codes "exit") (Some re)) false ≡ true
stays = refl

abbrev ic_name : String Global → String Global
ic_name s = text_of s (codes "IC") (lit< tt) refl

abbrev re_name : String Global → String Global
re_name s = text_of s (codes "RE") (lit< tt) refl

pub behind_another : (s : String Global) → first_named (item re (item ic no_items)) (ic_name s) ≡ Some ic
behind_another s = refl

-- a table that changes the exit of IC, and has no sections
abbrev change : Data
change = table (member (codes "exit") (boolean false) (member (codes "name") (string (codes "IC")) no_members))

abbrev own : Data
own = table (member (codes "after") (integer (pos 3)) (member (codes "section") (array no_items) (member (codes "train") (array (item change no_items)) no_members)))

pub is_changed : (s : String Global) → change_of (Some own) (Some (ic_name s)) ≡ Some change
is_changed s = refl

pub is_not_changed : (s : String Global) → change_of (Some own) (Some (re_name s)) ≡ None
is_not_changed s = refl

pub not_by_the_first : (s : String Global) → change_of None (Some (ic_name s)) ≡ None
not_by_the_first s = refl

-- what the table says goes before what the train's entry says, which holds where the table says nothing
pub by_the_table : said_at (codes "exit") (Some change) (Some ic) ≡ Some (boolean false)
by_the_table = refl

pub by_the_entry : said_at (codes "exit") None (Some ic) ≡ Some (boolean true)
by_the_entry = refl

pub by_none : said_at (codes "times") (Some change) (Some ic) ≡ None
by_none = refl

-- a text with one section and one connection
abbrev section : Data
section = table (member (codes "limit") (integer (pos 1)) no_members)

abbrev connection : Data
connection = table (member (codes "train") (string (codes "IC")) no_members)

abbrev text : Members
text = member (codes "connection") (array (item connection no_items)) (member (codes "section") (array (item section no_items)) no_members)

pub in_the_first : entries_in (codes "section") text None ≡ item section no_items
in_the_first = refl

pub its_own : entries_in (codes "section") text (Some own) ≡ no_items
its_own = refl

pub as_in_the_first : entries_in (codes "connection") text (Some own) ≡ item connection no_items
as_in_the_first = refl

-- the first table says nothing itself, and is due at once; the one after it says what the first entry says
pub first_table : own_of (item own no_items) 0 ≡ None
first_table = refl

pub second_table : own_of (item own no_items) 1 ≡ Some own
second_table = refl

pub at_once : is_due None 0 ≡ true
at_once = refl

pub after_three : is_due (Some own) 3 ≡ true
after_three = refl

pub not_at_once : is_due (Some own) 0 ≡ false
not_at_once = refl

-- two points, in zones 0 and 2: there are three zones
abbrev points : String Global → List (String Global × ℕ)
points s = (s, 0) ∷ (s, 2) ∷ []

pub three_zones : (s : String Global) → has_zones (points s) 3 ≡ true
three_zones s = refl

pub a_zone_too_many : (s : String Global) → has_zones (points s) 4 ≡ false
a_zone_too_many s = refl

pub a_zone_too_few : (s : String Global) → has_zones (points s) 2 ≡ false
a_zone_too_few s = refl

-- 3 and 4 beside each other
abbrev numbers : Items
numbers = item (integer (pos 3)) (item (integer (pos 4)) no_items)

abbrev is_said : Data → ℕ → Bool
is_said d n = is_number (as_integer d) n

pub the_same : agree_all is_said numbers (3 ∷ 4 ∷ []) ≡ true
the_same = refl

pub one_too_few : agree_all is_said numbers (3 ∷ []) ≡ false
one_too_few = refl

pub one_too_many : agree_all is_said numbers (3 ∷ 4 ∷ 5 ∷ []) ≡ false
one_too_many = refl

pub below_zero : is_number (Some (negsuc 2)) 3 ≡ false
below_zero = refl
