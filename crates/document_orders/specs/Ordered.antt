-- A document to which sections that keep orders are added.
use Rattle.std.specs.Prelude.{◌≡◌, ℕ, ◌<◌, ◌≤◌, List, [], length, slice_index_or, Ok}
use Rattle.rail_model.specs.declared.types.Node.{Node}
use Rattle.rail_model.specs.Certificate.{Tree, arrived, preorder}
use Rattle.rail_model.specs.Table.{Table}
use Rattle.cert_tree.specs.Spelling.{most_nodes}
use Rattle.document_json.specs.Doc.{Doc, nodes_at, offers_of}
use Rattle.document_json.specs.Migrated.{IsMigrated}
use Rattle.document_json.specs.Reading.{doc_of}
use Rattle.document_json.specs.Replaced.{replaced}
use Rattle.document_json.specs.Written.{written}
use Rattle.order_sections.specs.Orders.{SameOffers}

-- the certificate that comes with a number
abbrev pub new_tree : List (Table × Tree) → ℕ → Tree
new_tree parts t = (slice_index_or parts t (record { missions = []; sections = []; connections = [] }, arrived)).1

-- The tree is the one that the nodes spell, if they spell one.
abbrev pub KeepsTree : List Node → Tree → Type 0
KeepsTree nodes tree = (t : Tree) → preorder t ≡ nodes → length nodes ≤ most_nodes → tree ≡ t

-- Tables and certificates for the document in version 2 or later: each table has more sections behind its own, that keep orders, and each
-- certificate is the document's own, if its nodes spell one.
pub record AddsOrdersTo (D later : Doc) (parts : List (Table × Tree)) : Type 0 where
  pub migrated : IsMigrated D later
  pub orders : SameOffers (offers_of D) (offers_of (replaced later parts)) D.start
  pub trees : (t : ℕ) → t < length D.tables → KeepsTree (nodes_at D t) (new_tree parts t)

-- The text is the document with such tables, all else equal, and reads back as it.
pub record IsOrdered (D : Doc) (text : List ℕ) : Type 0 where
  pub later : Doc
  pub parts : List (Table × Tree)
  pub adds : AddsOrdersTo D later parts
  pub is_text : text ≡ written (replaced later parts)
  pub reads_back : doc_of text ≡ Ok (replaced later parts)
