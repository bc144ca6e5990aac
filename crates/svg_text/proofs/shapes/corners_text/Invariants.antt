use Rattle.std.proofs.Common.{◌≡◌, string_bytes, take}
use Rattle.std.specs.List.{flat_map}
use Rattle.svg_text.specs.Shapes.{corner_text}
use Rattle.svg_text.proofs.shapes.corners_text.Given as goal

abbrev pub invariant-loop-corner : goal.invariant-loop-corner
invariant-loop-corner l = string_bytes l.text ≡ flat_map corner_text (take l.corner-index l.corners)
