use Rattle.std.proofs.Common.{ap, map, ◌∙◌}
use Rattle.toml.specs.View.{table_view, view}
use Rattle.plan_patterns.specs.Expanded.{list_of, table_of}
use Rattle.plan_patterns.proofs.Steps.{seen_of, whole}
use Rattle.plan_patterns.proofs.writing.written_out.Goals as goal

pub returns : goal.returns
returns c =
    let patterns = c.list_of.ensures ∙ ap list_of (seen_of c.take-patterns.result c.as_ref-2.result c.as_ref-2.ensures.value ∙ c.take-patterns.ensures.value) in
    let ways = c.in_ok-ways.ensures ∙ ap table_of (seen_of c.take-ways.result c.as_ref.result c.as_ref.ensures.value ∙ c.take-ways.ensures.value) in
    c.in_ok-write_all.ensures
    ∙ whole (table_view c.args.text) (table_view c.take-patterns.new.table) (table_view c.take-ways.new.table) (map view c.list_of.result.now) (table_view c.in_ok-ways.ways)
    c.take-patterns.ensures.rest c.take-ways.ensures.rest patterns ways
