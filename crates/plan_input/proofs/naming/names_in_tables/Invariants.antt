use Rattle.std.proofs.Common.{◌≡◌, ◌∷◌, map, take}
use Rattle.std.specs.Prelude.{codes}
use Rattle.document_shapes.specs.Seen.{names_seen}
use Rattle.plan_reading.specs.Said.{entries_at}
use Rattle.toml.specs.View.{table_view}
use Rattle.plan_input.specs.Named.{names_in}
use Rattle.plan_input.proofs.Names.{names_in_table}
use Rattle.plan_input.proofs.naming.names_in_tables.Given as goal

abbrev pub invariant-loop-own : goal.invariant-loop-own
invariant-loop-own l =
    map names_seen l.names.items
    ≡ names_in (entries_at (codes "section") (table_view l.text)) ∷ map (names_in_table (table_view l.text)) (take l.own-index l.further)
