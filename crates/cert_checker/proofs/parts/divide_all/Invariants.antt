use Rattle.std.proofs.Common.{◌++◌, reverse}
use Rattle.std.specs.Prelude.{All}
use Rattle.cert_checker.specs.Cut.{IsCutFurther, IsPart}
use Rattle.cert_checker.proofs.parts.divide_all.Given as goal

abbrev pub invariant-loop-node : goal.invariant-loop-node
invariant-loop-node l = record {
  further : IsCutFurther l.tree.table.now l.tree.nodes.now (l.initial.parts.items ++ reverse l.initial.pending.items) (l.parts.items ++ reverse l.pending.items);
  pending : All (λ p. IsPart l.tree.table.now l.tree.nodes.now p) l.pending.items;
  parts : All (λ p. IsPart l.tree.table.now l.tree.nodes.now p) l.parts.items;
}
