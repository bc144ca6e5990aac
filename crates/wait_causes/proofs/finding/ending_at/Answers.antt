use Rattle.std.proofs.Common.{rules, tests}
use Rattle.std.proofs.lemmas.Iterator.{YieldsList-from_slice}
use Rattle.std.proofs.lemmas.Iterator.Search.{find_from_yields_List}
use Rattle.wait_causes.specs.Found.{ends_at}
use Rattle.wait_causes.proofs.finding.ending_at.Goals as goal

pub returns : goal.returns
returns c =
    find_from_yields_List (ends_at c.args.train c.args.tick) _ _ c.find.result c.find.ensures.ran (YieldsList-from_slice c.args.waits.now cc)
    (λ x b q k. search (rules, tests))
