-- Worked rows: a certificate that stays, and the certificate that comes with a number.
use Rattle.std.proofs.Common.{◌≡◌, [], ◌∷◌, refl}
use Rattle.rail_model.specs.declared.types.Node.TheVariants.{Arrived as ArrivedNode}
use Rattle.rail_model.specs.Certificate.{arrived}
use Rattle.rail_model.specs.Table.{Table}
use Rattle.document_orders.specs.Ordered.{KeepsTree, new_tree}
use Rattle.document_orders.proofs.Certificates.{keeps_spelled}

-- a leaf of arrived trains stays
leaf-stays : KeepsTree (ArrivedNode ∷ []) arrived
leaf-stays = keeps_spelled (ArrivedNode ∷ []) arrived refl

abbrev nothing : Table
nothing = record { missions = []; sections = []; connections = [] }

comes-second : new_tree ((nothing, arrived) ∷ (nothing, arrived) ∷ []) 1 ≡ arrived
comes-second = refl
