use Rattle.std.proofs.Common.{◌≡◌, map, take}
use Rattle.toml.specs.Data.{no_members}
use Rattle.toml.specs.View.{members_view, table_view, view}
use Rattle.plan_patterns.specs.Numbered.{numbered, numbered_members}
use Rattle.plan_patterns.proofs.numbered.+numbered.Given as goal

abbrev pub invariant-numbered_items-loop-item : goal.invariant-numbered_items-loop-item
invariant-numbered_items-loop-item l = map view l.copies.items ≡ map (λ v. numbered l.number (view v)) (take l.item-index l.item-items)

abbrev pub invariant-numbered_members-loop-key : goal.invariant-numbered_members-loop-key
invariant-numbered_members-loop-key l =
    numbered_members l.number (members_view l.key-iterator) (table_view l.copies) ≡ numbered_members l.number (table_view l.members) no_members
