use Rattle.std.proofs.Common.{ap, map, sym, ◌∙◌}
use Rattle.toml.specs.View.{view}
use Rattle.plan_patterns.proofs.Members.{listed_view}
use Rattle.plan_crossed.proofs.parts.list_of.Goals as goal

pub returns-in-Some-as_array : goal.returns-in-Some-as_array
returns-in-Some-as_array c =
    let list = rw c.in-Some-as_array.is at c.as_array.ensures in
    ap (map view) c.as_slice.ensures.value ∙ rw (c.in-Some.is, ← list) (sym (listed_view _))
