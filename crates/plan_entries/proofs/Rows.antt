-- Worked rows: what an entry holds where the value has the right shape, and where it hasn't.
use Rattle.std.proofs.Common.{◌≡◌, pos, Some, None, false, codes, refl}
use Rattle.toml.specs.Data.{Data, Items, no_items, item, no_members, member, string, integer, array, table}
use Rattle.plan_entries.specs.Found.{is_place, names_in, number_in, place_in}

-- the names A and B, and A and the number 1
abbrev names : Items
names = item (string (codes "A")) (item (string (codes "B")) no_items)

abbrev mixed : Items
mixed = item (string (codes "A")) (item (integer (pos 1)) no_items)

pub names_of_names : names_in (array names) ≡ Some names
names_of_names = refl

pub names_of_mixed : names_in (array mixed) ≡ None
names_of_mixed = refl

pub names_of_one : names_in (string (codes "A")) ≡ None
names_of_one = refl

-- a table that has 2 for IC
abbrev numbers : Data
numbers = table (member (codes "IC") (integer (pos 2)) no_members)

pub number_of_train : number_in (codes "IC") numbers ≡ Some (pos 2)
number_of_train = refl

pub number_of_other : number_in (codes "RE") numbers ≡ None
number_of_other = refl

-- a table that has the place M for IC
abbrev places : Data
places = table (member (codes "IC") (string (codes "M")) no_members)

pub own_place : place_in (codes "IC") places ≡ Some (codes "M")
own_place = refl

pub no_place : place_in (codes "RE") places ≡ None
no_place = refl

pub place_for_all : place_in (codes "RE") (string (codes "N")) ≡ Some (codes "N")
place_for_all = refl

pub number_is_no_place : is_place (integer (pos 1)) ≡ false
number_is_no_place = refl
