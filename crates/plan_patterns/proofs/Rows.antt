-- Worked rows: a pattern with a count of 2, whose route goes along a way, forwards and backwards.
use Rattle.std.proofs.Common.{◌≡◌, ℕ, List, [], ◌∷◌, pos, codes, refl}
use Rattle.std.specs.Fmt.{digits}
use Rattle.toml.specs.Data.{Data, no_items, item, Members, no_members, member, string, integer, array, table}
use Rattle.plan_patterns.specs.Expanded.{expanded}
use Rattle.plan_patterns.specs.Numbered.{numbered_text}
use Rattle.plan_patterns.specs.Parts.{and_others}
use Rattle.plan_patterns.specs.Ways.{points_of}

abbrev name : List ℕ → Data
name text = string text

-- the way out goes from A over B
abbrev ways : Members
ways = member (codes "out") (array (item (name (codes "A")) (item (name (codes "B")) no_items))) no_members

pub along_way : points_of 1 ways (name (codes "@out")) ≡ name (codes "A") ∷ name (codes "B") ∷ []
along_way = refl

pub backwards : points_of 1 ways (name (codes "@-out")) ≡ name (codes "B") ∷ name (codes "A") ∷ []
backwards = refl

pub no_way : points_of 1 ways (name (codes "out")) ≡ name (codes "out") ∷ []
no_way = refl

pub both_numbers : numbered_text (codes "12") (codes "T{}-{}{") ≡ codes "T12-12{"
both_numbers = refl

-- the pattern there has a count of 2, and a route along the way and back from C
abbrev there : Data
there = table
    (member (codes "count") (integer (pos 2))
    (member (codes "name") (name (codes "there"))
    (member (codes "route") (array (item (name (codes "@out")) (item (name (codes "C{}")) no_items))) no_members)))

-- a train that rests on it, and starts in B
abbrev train : Data
train = table
    (member (codes "name") (name (codes "T{}"))
    (member (codes "pattern") (name (codes "there"))
    (member (codes "start") (name (codes "B")) no_members)))

abbrev text : Members
text =
    member (codes "pattern") (array (item there no_items))
    (member (codes "train") (array (item train no_items))
    (member (codes "ways") (table ways) no_members))

-- one of the two trains
abbrev written : List ℕ → List ℕ → Data
written called last = table
    (member (codes "name") (name called)
    (member (codes "route") (array (item (name (codes "A")) (item (name (codes "B")) (item (name last) no_items))))
    (member (codes "start") (name (codes "B")) no_members)))

pub two_trains : expanded text ≡ member (codes "train") (array (item (written (codes "T1") (codes "C1")) (item (written (codes "T2") (codes "C2")) no_items))) no_members
unfolding digits
two_trains = refl

-- its own keys go before those of the pattern
pub own_first : and_others (member (codes "a") (integer (pos 1)) no_members) (member (codes "a") (integer (pos 2)) (member (codes "b") (integer (pos 3)) no_members))
    ≡ member (codes "a") (integer (pos 1)) (member (codes "b") (integer (pos 3)) no_members)
own_first = refl
