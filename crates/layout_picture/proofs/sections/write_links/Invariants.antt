use Rattle.std.proofs.Common.{◌≡◌, ◌++◌, string_bytes, take}
use Rattle.std.specs.List.{flat_map}
use Rattle.layout_picture.specs.Areas.{line_words}
use Rattle.layout_picture.specs.Drawn.{marks}
use Rattle.layout_picture.proofs.sections.write_links.Given as goal

abbrev pub invariant-loop-link : goal.invariant-loop-link
invariant-loop-link l =
    string_bytes l.way ≡ string_bytes l.initial.way ++ flat_map (line_words l.view.frame.now.spots.items (marks l.view l.section)) (take l.link-index l.links)
