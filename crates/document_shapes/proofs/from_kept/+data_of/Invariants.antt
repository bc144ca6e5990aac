use Rattle.std.proofs.Common.{◌≡◌, drop}
use Rattle.json.specs.Value as kept
use Rattle.serde_json.specs.Data.{no_members}
use Rattle.serde_json.specs.Read.{of_items, of_members}
use Rattle.serde_json.specs.View.{members_view}
use Rattle.document_shapes.proofs.KeptLemmas.{items_onto}
use Rattle.document_shapes.proofs.from_kept.+data_of.Given as goal

abbrev pub invariant-items_of-loop-value : goal.invariant-items_of-loop-value
invariant-items_of-loop-value l =
    of_items (kept.items_view l.values) ≡ items_onto l.found.items (of_items (kept.items_view (drop l.value-index l.values)))

abbrev pub invariant-members_of-loop-name : goal.invariant-members_of-loop-name
invariant-members_of-loop-name l =
    of_members (kept.members_view l.members) no_members ≡ of_members (kept.members_view (drop l.name-index l.members)) (members_view l.found.entries)
