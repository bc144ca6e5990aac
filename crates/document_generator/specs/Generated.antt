-- The document of a seed and a number of trains.
use Rattle.std.specs.Prelude.{ℕ, List, [], ◌∷◌, ◌++◌, map, flat_map, replicate, codes, Some, None}
use Rattle.std.specs.Fmt.{decimal}
use Rattle.rail_model.specs.Checks.{below}
use Rattle.document_shapes.specs.Raw.{TableMembers, DocMembers}
use Rattle.document_shapes.specs.Written.{text_of}
use Rattle.document_generator.specs.Pairs.{Pair, all_pairs}
use Rattle.document_generator.specs.Pieces.{points_of, links_of, ways_of, sections_of}

-- the name of a train
abbrev pub train_name : ℕ → List ℕ
train_name i = codes "T" ++ decimal i

-- the names of a number of trains
abbrev pub train_names : ℕ → List (List ℕ)
train_names trains = map train_name (below trains)

-- the one table of all pairs
abbrev pub table_of : List Pair → TableMembers
table_of all = record {
  missions = flat_map ways_of all;
  exits = None;
  sections = Some (flat_map (sections_of all) all);
  connections = None;
  certificate = Some [];
  times = Some (flat_map (λ g. g.times) all);
  after = Some 0;
}

-- the document of all pairs with a number of trains
abbrev pub document_of : ℕ → List Pair → DocMembers
document_of trains all = record {
  version = 1;
  points = flat_map points_of all;
  links = flat_map links_of all;
  zones = 4;
  trains = train_names trains;
  start = replicate trains 0;
  tables = table_of all ∷ [];
}

-- the text of the generated document
abbrev pub generated : ℕ → ℕ → List ℕ
generated seed trains = text_of (document_of trains (all_pairs seed trains))
