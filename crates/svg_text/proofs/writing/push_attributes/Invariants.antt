use Rattle.std.proofs.Common.{◌≡◌, ◌++◌, take}
use Rattle.std.specs.List.{flat_map}
use Rattle.svg_text.specs.Text.{attribute_text}
use Rattle.svg_text.proofs.writing.push_attributes.Given as goal

abbrev pub invariant-loop-attribute : goal.invariant-loop-attribute
invariant-loop-attribute l = l.out.items ≡ l.fn.out.items ++ flat_map attribute_text (take l.attribute-index l.attributes)
