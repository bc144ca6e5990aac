use Rattle.std.proofs.Common.{◌≡◌, ℕ, ◌<◌, Some, slice_get}
use Rattle.rail_model.specs.declared.types.Line.{Line}
use Rattle.live_yard.specs.GrantedLines.{answered}
use Rattle.live_yard.proofs.granted_lines.answer_of.Given as goal

abbrev pub invariant-loop-index : goal.invariant-loop-index
invariant-loop-index l = (k : ℕ) → k < l.index → (line : Line) → slice_get l.lines k ≡ Some line
    → answered line ≡ Some l.table → ⊥
