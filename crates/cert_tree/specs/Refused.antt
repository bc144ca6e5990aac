-- Why a list of nodes spells no certificate.
use Rattle.std.specs.Prelude.{◌≡◌, ℕ, ◌<◌, ◌≤◌, List, ◌++◌, length}
use Rattle.rail_model.specs.declared.types.Node.{Node}
use Rattle.rail_model.specs.Certificate.{Tree, preorder}
use Rattle.cert_tree.specs.declared.reading.CertRefused.{CertRefused}
use Rattle.cert_tree.specs.declared.reading.CertRefused.TheVariants.{TooMany, Short, Over}
use Rattle.cert_tree.specs.Spelling.{forest_nodes, most_nodes}

-- Any `missing` trees after the list make it a tree's preorder.
abbrev pub IsMissing : List Node → ℕ → Type 0
IsMissing nodes missing =
    (ts : List Tree) → length ts ≡ missing → (t : Tree) × (preorder t ≡ nodes ++ forest_nodes ts)

-- The first `used` nodes are a tree's preorder, and some are left over.
abbrev pub IsLeftOver : List Node → ℕ → Type 0
IsLeftOver nodes used =
    (t : Tree) × (rest : List Node) × (nodes ≡ preorder t ++ rest) × (length (preorder t) ≡ used) × (0 < length rest)

-- The cause of a refusal: too many nodes first.
abbrev pub IsRefused : List Node → CertRefused → Type 0
IsRefused nodes (TooMany n) = (n ≡ length nodes) × (most_nodes < length nodes)
IsRefused nodes (Short missing) = (length nodes ≤ most_nodes) × (0 < missing) × IsMissing nodes missing
IsRefused nodes (Over used) = (length nodes ≤ most_nodes) × IsLeftOver nodes used
