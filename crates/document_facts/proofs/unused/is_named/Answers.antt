use Rattle.std.proofs.Common.{arith}
use Rattle.std.proofs.lemmas.Bool.{ltb-true, lt-ltb}
use Rattle.document_facts.proofs.Counting.{counts_one}
use Rattle.document_facts.specs.Used.{IsUnusedLink}
use Rattle.document_facts.proofs.unused.is_named.Goals as goal

pub returns-then-is_unused : goal.returns-then-is_unused
returns-then-is_unused c =
    let K = IsUnusedLink c.args.doc.now in
    let link = c.args.link in
    let count = c.args.count in (
      λ few. (c.requires.unused.0 c.if-is_unused.true, (count, c.requires.counted, ltb-true count 8 few)),
      λ among.
          let same = counts_one K link among.1.0 count among.1.1 c.requires.counted in
          let few = among.1.2 in
          lt-ltb count 8 (omega (arith, same, few)),
    )
