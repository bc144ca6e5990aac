-- What the parts of a layout that are counted are called, and how many there may be.
use Rattle.std.specs.Prelude.{ℕ, List, codes}
use Rattle.track_layout.specs.declared.refused.What.{What}
use Rattle.track_layout.specs.declared.refused.What.TheVariants as what

-- the word for a part
abbrev pub name_of : What → List ℕ
name_of what.Points = codes "points"
name_of what.Links = codes "links"
name_of what.Zones = codes "zones"

-- how many of them a layout may have
abbrev pub most_of : What → ℕ
most_of what.Points = 512
most_of what.Links = 2048
most_of what.Zones = 16
