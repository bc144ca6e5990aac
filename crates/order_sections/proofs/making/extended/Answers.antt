use Rattle.std.proofs.Common.{◌++◌, sym, ◌∙◌, ap}
use Rattle.order_sections.proofs.Extending.{extends}
use Rattle.order_sections.proofs.making.extended.Goals as goal

pub returns-in-Ok-clause-more : goal.returns-in-Ok-clause-more
returns-in-Ok-clause-more c =
    let all = c.in_ok-all.ensures ∙ ap (λ own. own ++ c.args.more.now) c.sections.ensures.sections in
    (extends c.args.table.now c.in_ok-marked.marked c.in-Ok.made c.in_ok-missions.missions c.in_ok-all.all.items c.args.more.now
    c.in_ok-links.links.items c.sections.ensures.formed c.in_ok-missions.ensures all (c.in_ok-links.ensures.items ∙ c.connections.ensures.connections)
    (sym c.in_ok-marked.ensures) c.in-Ok.ensures).0
