use Rattle.std.proofs.Common.{◌≡◌, ℕ, ◌<◌, length, map, take}
use Rattle.document_json.specs.Doc.{nodes_at}
use Rattle.document_orders.specs.Ordered.{KeepsTree, new_tree}
use Rattle.document_orders.proofs.keeping.with_certs.Given as goal

abbrev pub invariant-loop-number : goal.invariant-loop-number
invariant-loop-number l = record {
  count : length l.parts.items ≡ l.number;
  tables : map (λ p. p.0) l.parts.items ≡ take l.number l.tables;
  trees : (t : ℕ) → t < l.number → KeepsTree (nodes_at l.doc t) (new_tree l.parts.items t);
}
