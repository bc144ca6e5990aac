use Rattle.std.proofs.Common.{ap, sym, ◌∙◌}
use Rattle.toml.specs.Data.{array}
use Rattle.toml.specs.View.{items_of, view}
use Rattle.toml.proofs.Views.{view-Array}
use Rattle.plan_patterns.specs.Numbered.{numbered}
use Rattle.plan_patterns.proofs.Members.{numbered_view}
use Rattle.plan_patterns.proofs.numbered.+numbered.Goals as goal

pub numbered-returns-in_ok-numbered_items-in-Array : goal.numbered-returns-in_ok-numbered_items-in-Array
numbered-returns-in_ok-numbered_items-in-Array t c =
    let number = c.args.number.now in
    let items = ap items_of c.in_ok-numbered_items-in-Array.ensures ∙ sym (numbered_view number c.in-Array.items.items) in
    view-Array c.in_ok-numbered_items-in-Array.field-0 ∙ ap array items ∙ sym (ap (numbered number) (ap view c.in-Array.is ∙ view-Array c.in-Array.items))
