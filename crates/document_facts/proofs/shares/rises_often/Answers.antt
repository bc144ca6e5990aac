use Rattle.std.proofs.Common.{arith}
use Rattle.std.specs.Prelude.{length}
use Rattle.std.proofs.lemmas.Bool.{ltb-true, lt-ltb}
use Rattle.document_facts.proofs.Counting.{counts_one}
use Rattle.document_facts.specs.Facts.{Rises}
use Rattle.document_facts.proofs.shares.rises_often.Goals as goal

pub returns : goal.returns
returns c =
    let numbers = c.args.numbers.now in
    let count = c.count_rises.result in (
      λ many. (count, c.count_rises.ensures, ltb-true 1 count many),
      λ often.
          let same = counts_one (Rises numbers) (length numbers) often.0 count often.1 c.count_rises.ensures in
          let many = often.2 in
          lt-ltb 1 count (omega (arith, same, many)),
    )
