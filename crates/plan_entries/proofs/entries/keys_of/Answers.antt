use Rattle.std.proofs.Common.{◌∙◌, Some, ap, arith}
use Rattle.std.specs.Prelude.{option_and_then}
use Rattle.toml.specs.Data.{as_table}
use Rattle.toml.specs.View.{view}
use Rattle.toml.proofs.Views.{get_item_within, get_item_past}
use Rattle.plan_entries.proofs.entries.keys_of.Goals as goal

pub returns-then-index-values : goal.returns-then-index-values
returns-then-index-values c =
    let here = ap (λ v. Some (view v)) c.index-values-index.is ∙ get_item_within c.args.values.now c.args.index c.index-values-index.result (omega arith) in
    c.as_table.ensures ∙ ap (option_and_then as_table) here

pub returns-else-index-values : goal.returns-else-index-values
returns-else-index-values c = ap (option_and_then as_table) (get_item_past c.args.values.now c.args.index (omega arith))
