-- The tables, trees, offers and histories that the rows are computed on.
use Rattle.std.proofs.Common.{◌∷◌, [], pos, negsuc, true, false}
use Rattle.std.specs.Prelude.{codes, List, ℕ}
use Rattle.rail_model.specs.declared.types.Ask.TheVariants.{Yes, Full}
use Rattle.rail_model.specs.declared.types.Tried.TheVariants.{Over}
use Rattle.rail_model.specs.declared.types.Reply.TheVariants.{Driver, Control}
use Rattle.rail_model.specs.declared.types.Entry.{Entry}
use Rattle.rail_model.specs.Layout.{Layout}
use Rattle.rail_model.specs.Table.{Table}
use Rattle.rail_model.specs.Certificate.{Tree, split, move, arrived, clash}
use Rattle.rail_model.specs.Yard.{Offer}
use Rattle.rail_model.specs.Names.{Names}

-- the corridor A M N B against C N M D, with a section
abbrev pub corridor : Table
corridor = record {
  missions = record { points = 0 ∷ 1 ∷ 2 ∷ 3 ∷ []; exits = false } ∷ record { points = 4 ∷ 2 ∷ 1 ∷ 5 ∷ []; exits = false } ∷ [];
  sections = record { limit = 1; changes = (pos 0 ∷ pos 1 ∷ pos 0 ∷ negsuc 0 ∷ []) ∷ (pos 0 ∷ pos 1 ∷ pos 0 ∷ negsuc 0 ∷ []) ∷ [] } ∷ [];
  connections = [];
}

-- the corridor without its section
abbrev pub open_corridor : Table
open_corridor = record corridor { sections = [] }

-- A B C beside D E, with a section that is always empty and one for four
abbrev pub beside : Table
beside = record {
  missions = record { points = 0 ∷ 1 ∷ 2 ∷ []; exits = false } ∷ record { points = 3 ∷ 4 ∷ []; exits = false } ∷ [];
  sections =
      record { limit = 9; changes = (pos 0 ∷ pos 0 ∷ pos 0 ∷ []) ∷ (pos 0 ∷ pos 0 ∷ []) ∷ [] }
      ∷ record { limit = 4; changes = (pos 0 ∷ pos 2 ∷ pos 0 ∷ []) ∷ (pos 1 ∷ pos 0 ∷ []) ∷ [] } ∷ [];
  connections = [];
}

-- two trains that leave the layout after B
abbrev pub leaving : Table
leaving = record {
  missions = record { points = 0 ∷ 1 ∷ []; exits = true } ∷ record { points = 2 ∷ 1 ∷ []; exits = true } ∷ [];
  sections = [];
  connections = [];
}

abbrev pub names : Names
names = record { points = codes "A" ∷ codes "B" ∷ codes "C" ∷ codes "D" ∷ codes "E" ∷ codes "F" ∷ []; trains = codes "T0" ∷ codes "T1" ∷ [] }

-- T0 may leave A only when T1 has reached D
abbrev pub waiting : Table
waiting = record {
  missions = record { points = 0 ∷ 1 ∷ []; exits = false } ∷ record { points = 2 ∷ 3 ∷ []; exits = false } ∷ [];
  sections = [];
  connections = record { train = 0; place = 0; other = 1; reached = 1 } ∷ [];
}

abbrev pub tree : Tree
tree = split 0 0 (split 1 0 (move 1) (move 0)) (split 1 0 (move 1) arrived)

-- the passing loop: W L1 E against E L2 W
abbrev pub loop : Table
loop = record {
  missions = record { points = 0 ∷ 1 ∷ 2 ∷ []; exits = false } ∷ record { points = 2 ∷ 3 ∷ 0 ∷ []; exits = false } ∷ [];
  sections = [];
  connections = [];
}

abbrev pub loop_tree : Tree
loop_tree =
    split 0 0 (move 0)
    (split 1 0 (split 0 1 (move 1) (clash 0 1)) (split 0 1 (move 0) (split 1 1 (move 1) arrived)))

-- a section of the corridor that nothing fits
abbrev pub shut_corridor : Table
shut_corridor = record corridor { sections = record { limit = 0; changes = (pos 1 ∷ pos 0 ∷ pos 0 ∷ pos 0 ∷ []) ∷ (pos 0 ∷ pos 0 ∷ pos 0 ∷ pos 0 ∷ []) ∷ [] } ∷ [] }

abbrev pub one_train : List ℕ → Table
one_train points = record { missions = record { points = points; exits = false } ∷ []; sections = []; connections = [] }

-- a history: a move, a table that is kept out, a question too many
abbrev pub offered : List Offer
offered = record { table = corridor; after = 0 } ∷ record { table = shut_corridor; after = 1 } ∷ []

abbrev pub history : List Entry
history =
    record { who = 0; reply = Driver Yes } ∷ record { who = 32; reply = Control (Over 0 1) } ∷ record { who = 1; reply = Driver (Full 0 1) } ∷ []

abbrev pub two_trains : List ℕ → List ℕ → Table
two_trains first second = record { missions = record { points = first; exits = false } ∷ record { points = second; exits = false } ∷ []; sections = []; connections = [] }

-- A B and C D; after one move a table that leads T0 to E in place of B; after nine moves, or at the end, one that leads T1 on to F
abbrev pub three_tables : List Offer
three_tables =
    record { table = two_trains (0 ∷ 1 ∷ []) (2 ∷ 3 ∷ []); after = 0 }
    ∷ record { table = two_trains (0 ∷ 4 ∷ []) (2 ∷ 3 ∷ []); after = 1 }
    ∷ record { table = two_trains (0 ∷ 1 ∷ []) (2 ∷ 3 ∷ 5 ∷ []); after = 9 } ∷ []

-- A in the second zone, linked to B in the first
abbrev pub two_points : Layout
two_points = record {
  points = record { name = codes "A"; zone = 1 } ∷ record { name = codes "B"; zone = 0 } ∷ [];
  links = record { first = 0; second = 1 } ∷ [];
  zones = 2;
}
