-- The shapes of a table's parts: nodes, sections and connections.
use Rattle.std.specs.Prelude.{ℕ, ℤ, ◌==◌, List, [], ◌∷◌, codes, Option, Some, None, option_map, option_and_then, if◌then◌else◌}
use Rattle.rail_model.specs.declared.types.Node.{Node}
use Rattle.rail_model.specs.declared.types.Node.TheVariants.{Split, Clash, Overfull, Arrived, Move}
use Rattle.rail_model.specs.Table.{Section, Connection}
use Rattle.document_shapes.specs.Shape.{Shape, whole, change, list_of, at}

-- the node that whole numbers stand for
abbrev pub node_of : List ℕ → Option Node
node_of (tag ∷ a ∷ b ∷ []) = if tag == 0 then Some (Split a b) else (if tag == 1 then Some (Clash a b) else None)
node_of (tag ∷ a ∷ []) = if tag == 2 then Some (Overfull a) else (if tag == 4 then Some (Move a) else None)
node_of (tag ∷ []) = if tag == 3 then Some Arrived else None
node_of _ = None

abbrev pub node : Shape Node
node d = option_and_then node_of (list_of whole d)

-- the changes of a section, a list for each train
abbrev pub changes : Shape (List (List ℤ))
changes d = at (codes "changes") (list_of (list_of change)) d

-- an object with a limit and with changes
abbrev pub section : Shape Section
section d =
    option_and_then (λ limit. option_map (λ cs. record { limit = limit; changes = cs }) (changes d)) (at (codes "limit") whole d)

-- the connection that whole numbers stand for
abbrev pub connection_of : List ℕ → Option Connection
connection_of (train ∷ place ∷ other ∷ reached ∷ []) = Some (record { train = train; place = place; other = other; reached = reached })
connection_of _ = None

abbrev pub connection : Shape Connection
connection d = option_and_then connection_of (list_of whole d)
