use Rattle.std.proofs.Common.{Some, ap, map, sym, ◌∙◌}
use Rattle.toml.specs.View.{view}
use Rattle.plan_patterns.proofs.Members.{listed_view}
use Rattle.plan_patterns.proofs.ways.way_at.Goals as goal

pub returns-in-Some-as_array : goal.returns-in-Some-as_array
returns-in-Some-as_array c =
    let value = rw c.in-Some.is at c.member.ensures in
    let list = rw c.in-Some-as_array.is at c.as_array.ensures in
    ap (λ vs. Some (map view vs)) c.as_slice.ensures.value ∙ rw (← value, ← list) (ap Some (sym (listed_view _)))
