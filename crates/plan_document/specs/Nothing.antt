-- What a plan says of a train that it hasn't.
use Rattle.std.specs.Prelude.{List, [], Option, Some, None, String, Vec}
use Rattle.std.specs.declared.alloc.Global.{Global}

-- the points of a route, if there is one
abbrev pub points_of : Option (Vec (String Global) Global) → List (String Global)
points_of None = []
points_of (Some route) = route.items
