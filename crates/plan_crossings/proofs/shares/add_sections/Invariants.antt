use Rattle.std.proofs.Common.{◌≡◌, ◌++◌, map, take}
use Rattle.plan_crossings.specs.Sections.{seen_section}
use Rattle.plan_crossings.specs.Stands.{section_of}
use Rattle.plan_crossings.proofs.shares.add_sections.Given as goal

abbrev pub invariant-loop-section : goal.invariant-loop-section
invariant-loop-section l =
    map seen_section l.found.items ≡ map seen_section l.initial.found.items ++ map (section_of l.rows) (take l.section-index l.sections)
