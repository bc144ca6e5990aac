use Rattle.document_facts.proofs.Counting.{counts_few, counts_here, counts_still}
use Rattle.std.proofs.Common.{◌≡◌, ◌+◌, subst, arith}
use Rattle.document_facts.specs.Used.{IsUnusedLink}
use Rattle.document_facts.specs.Counting.{Counts}
use Rattle.document_facts.proofs.Tests.{refuted}
use Rattle.document_facts.proofs.unused.count_with.Goals as goal

pub returns-then-is_unused : goal.returns-then-is_unused
returns-then-is_unused c =
    let K = IsUnusedLink c.args.doc.now in
    let few = counts_few K c.args.link c.args.count c.requires.counted in
    let lt = c.requires.link in
    let most = c.layout_of.ensures.formed.layout.few_links in
    let sum = c.saturating_add.ensures in
    let same : c.args.count + 1 ≡ c.saturating_add.result = omega (arith, few, lt, most, sum) in
    subst (λ n. Counts K (c.args.link + 1) n) same (counts_here K c.args.link c.args.count (c.requires.unused.0 c.if-is_unused.true) c.requires.counted)

pub returns-else-is_unused : goal.returns-else-is_unused
returns-else-is_unused c =
    let K = IsUnusedLink c.args.doc.now in
    counts_still K c.args.link c.args.count (refuted (K c.args.link) c.args.is_unused c.requires.unused c.if-is_unused.false) c.requires.counted
