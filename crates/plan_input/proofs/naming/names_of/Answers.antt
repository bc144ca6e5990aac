use Rattle.std.proofs.Common.{◌∙◌, map, sym, ap, arith}
use Rattle.std.proofs.lemmas.List.{take_all}
use Rattle.toml.specs.View.{view}
use Rattle.plan_input.specs.Named.{name_in}
use Rattle.plan_input.proofs.Names.{names_in-values}
use Rattle.plan_input.proofs.naming.names_of.Goals as goal

pub returns : goal.returns
returns c =
    let entries = c.args.entries.now in
    c.loop-entry.invariant ∙ ap (map (λ v. name_in (view v))) (take_all c.loop-entry.entry-index entries (omega arith)) ∙ sym (names_in-values entries)
