use Rattle.std.proofs.Common.{◌∙◌, ◌∷◌, List, ℕ, map, sym, ap, arith}
use Rattle.std.specs.Prelude.{codes}
use Rattle.std.proofs.lemmas.List.{take_all}
use Rattle.plan_reading.specs.Said.{entries_at}
use Rattle.toml.specs.View.{table_view}
use Rattle.plan_input.specs.Named.{names_in}
use Rattle.plan_input.proofs.Names.{further_names-values, names_in_table}
use Rattle.plan_input.proofs.naming.names_in_tables.Goals as goal

pub returns : goal.returns
returns c =
    let text = table_view c.args.text.now in
    let further = c.args.further.now in
    let first = names_in (entries_at (codes "section") text) in
    c.loop-own.invariant
    ∙ ap (λ (later : List (List (List ℕ))). first ∷ later)
    (ap (map (names_in_table text)) (take_all c.loop-own.own-index further (omega arith)) ∙ sym (further_names-values text further))
