use Rattle.std.proofs.Common.{◌≡◌, ◌++◌, string_bytes}
use Rattle.state_sentences.specs.Explanation.{joined_below}
use Rattle.layout_picture.specs.Areas.{dot_words}
use Rattle.layout_picture.specs.Drawn.{marks}
use Rattle.layout_picture.proofs.sections.write_points.Given as goal

abbrev pub invariant-loop-point : goal.invariant-loop-point
invariant-loop-point l = string_bytes l.way ≡ string_bytes l.initial.way ++ joined_below (dot_words l.view.frame.now.spots.items (marks l.view l.section)) l.point
