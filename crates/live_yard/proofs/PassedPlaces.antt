-- Lines of a journal that are looked through from its end.
use Rattle.std.proofs.Common.{◌≡◌, ℕ, ◌+◌, ◌-◌, ◌<◌, ◌≤◌, List, length, cond, drop, get_or, ap, ◌∙◌, arith}
use Rattle.std.proofs.lemmas.List.Sums.{sum_by-drop_more}
use Rattle.rail_model.specs.declared.types.Line.{Line}
use Rattle.live_yard.specs.GrantedLines.{moves, moves_of}

-- one line more
pub moves_of-before : (i : ℕ) (lines : List Line) (left : ℕ) (d : Line) → 0 < left → left ≤ length lines
    → moves_of i (drop (left - 1) lines) ≡ cond (moves i (get_or lines (left - 1) d)) 1 0 + moves_of i (drop left lines)
moves_of-before i lines left d some within =
    let next : left - 1 + 1 ≡ left = omega arith in
    sum_by-drop_more (λ (l : Line). cond (moves i l) 1 0) lines (left - 1) d (omega arith)
    ∙ ap (λ (k : ℕ). cond (moves i (get_or lines (left - 1) d)) 1 0 + moves_of i (drop k lines)) next
