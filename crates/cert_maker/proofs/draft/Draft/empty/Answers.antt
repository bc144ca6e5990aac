use Rattle.cert_maker.proofs.Common.{List, length, ap, arith, Node}
use Rattle.cert_maker.proofs.Copied.{nothing_begins}
use Rattle.cert_maker.proofs.draft.Draft.empty.Goals as goal

pub returns : goal.returns
returns c = record {
  are_lists = c.in_ok-lists.ensures;
  begins = nothing_begins c.args.table.now c.new-nodes.result.items c.new-nodes.ensures.items;
  few = omega (arith, ap (λ (w : List Node). length w) c.new-nodes.ensures.items);
}
