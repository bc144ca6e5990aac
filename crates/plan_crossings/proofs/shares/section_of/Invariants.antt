use Rattle.std.proofs.Common.{◌≡◌, map, take}
use Rattle.clash_sections.specs.Sections.{share_of}
use Rattle.plan_crossings.proofs.shares.section_of.Given as goal

abbrev pub invariant-loop-row : goal.invariant-loop-row
invariant-loop-row l = map (λ v. v.items) l.shares.items ≡ map (λ row. map (share_of l.section) row) (take l.row-index l.rows)
