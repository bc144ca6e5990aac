-- Shapes at places.
use Rattle.std.specs.Prelude.{ℕ, List, [], ◌∷◌, ◌++◌, codes, decimal, flat_map}
use Rattle.svg_text.specs.Tree.{Shape}
use Rattle.svg_text.specs.declared.shapes.Spot.{Spot}

-- a line between two places
abbrev pub line_of : Spot → Spot → Shape
line_of from to = record {
  name = codes "line";
  attributes =
      record { name = codes "x1"; value = decimal from.x }
      ∷ record { name = codes "y1"; value = decimal from.y }
      ∷ record { name = codes "x2"; value = decimal to.x }
      ∷ record { name = codes "y2"; value = decimal to.y }
      ∷ [];
  title = [];
  words = [];
}

-- a circle round a place
abbrev pub circle_of : Spot → ℕ → Shape
circle_of at radius = record {
  name = codes "circle";
  attributes =
      record { name = codes "cx"; value = decimal at.x }
      ∷ record { name = codes "cy"; value = decimal at.y }
      ∷ record { name = codes "r"; value = decimal radius }
      ∷ [];
  title = [];
  words = [];
}

-- words that begin at a place
abbrev pub label_of : Spot → List ℕ → Shape
label_of at words = record {
  name = codes "text";
  attributes = record { name = codes "x"; value = decimal at.x } ∷ record { name = codes "y"; value = decimal at.y } ∷ [];
  title = [];
  words = words;
}

-- a corner of an area, as its text has it
abbrev pub corner_text : Spot → List ℕ
corner_text at = decimal at.x ++ codes "," ++ decimal at.y ++ codes " "

-- a closed area with these corners
abbrev pub polygon_of : List Spot → Shape
polygon_of corners = record {
  name = codes "polygon";
  attributes = record { name = codes "points"; value = flat_map corner_text corners } ∷ [];
  title = [];
  words = [];
}
