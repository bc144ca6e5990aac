use Rattle.std.proofs.Common.{All, IfSome, Option, subst, sym}
use Rattle.std.proofs.lemmas.List.Elements.{All-push}
use Rattle.clash_sections.specs.Sections.{StandSection}
use Rattle.clash_sections.specs.Tracks.{IsFit}
use Rattle.clash_sections.proofs.choosing.found.Goals as goal

pub loop-preserved : goal.loop-preserved
loop-preserved c =
    let fit : IsFit c.args.clashes.now c.in-Some.section =
    subst (λ (found : Option StandSection). IfSome found (IsFit c.args.clashes.now)) c.in-Some.is c.in_ok-section.ensures in
    subst (All (IsFit c.args.clashes.now)) (sym c.in_ok-push.ensures.items)
    (All-push (IsFit c.args.clashes.now) c.loop.sections.items c.in-Some.section c.loop.invariant fit)
