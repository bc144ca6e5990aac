-- Dots and lines.
use Rattle.std.specs.Prelude.{ℕ, List, [], ◌∷◌, ◌++◌, codes, decimal, Option, Some, None}
use Rattle.svg_text.specs.Tree.{Shape}
use Rattle.svg_text.specs.Shapes.{line_of, circle_of}
use Rattle.svg_text.specs.declared.shapes.Spot.{Spot}
use Rattle.rail_model.specs.Layout.{Link}
use Rattle.layout_frame.specs.Spots.{spot_at}
use Rattle.layout_picture.specs.declared.tracks.Way.{Way}

-- a dot at a spot
abbrev pub dot_at : Spot → Shape
dot_at at = circle_of at 5

-- x and y of a spot, as a path has them
abbrev pub pair_of : Spot → List ℕ
pair_of at = decimal at.x ++ codes "," ++ decimal at.y

-- a line from one spot to another, in a bow toward a third one
abbrev pub bow_of : Spot → Spot → Spot → Shape
bow_of from toward to = record {
  name = codes "path";
  attributes =
      record { name = codes "d"; value = codes "M" ++ pair_of from ++ codes " Q" ++ pair_of toward ++ codes " " ++ pair_of to } ∷ [];
  title = [];
  words = [];
}

-- the line of a way
abbrev pub line_along : Spot → Option Spot → Spot → Shape
line_along from None to = line_of from to
line_along from (Some toward) to = bow_of from toward to

abbrev pub stroke_of : Way → Shape
stroke_of w = line_along w.from w.toward w.to

-- Where a way begins and ends.
pub record WayEnds : Type 0 where
  pub from : Spot
  pub to : Spot

abbrev pub ends_of : Way → WayEnds
ends_of w = record { from = w.from; to = w.to }

-- the spots of two points
abbrev pub ends_at : List Spot → ℕ → ℕ → WayEnds
ends_at spots first second = record { from = spot_at spots first; to = spot_at spots second }

-- the spots of the points of a link
abbrev pub link_ends : List Spot → Link → WayEnds
link_ends spots k = ends_at spots k.first k.second
