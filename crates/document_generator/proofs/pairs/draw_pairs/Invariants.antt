use Rattle.std.proofs.Common.{◌≡◌, ◌*◌, ◌-◌, ◌≤◌, ◌++◌}
use Rattle.document_generator.specs.Pairs.{all_pairs, pairs_from, pair_count}
use Rattle.document_generator.proofs.pairs.draw_pairs.Given as goal

abbrev pub invariant-loop-number : goal.invariant-loop-number
invariant-loop-number l = record {
  listed : all_pairs l.seed l.trains ≡ l.found.items ++ pairs_from (pair_count l.trains - l.number) l.number l.first l.left l.draws;
  bounded : l.first ≤ 25 * l.number;
}
