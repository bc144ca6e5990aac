use Rattle.std.proofs.Common.{◌≡◌, ◌==◌, ◌∙◌, true, sym}
use Rattle.std.specs.Prelude.{vec_len}
use Rattle.std.proofs.lemmas.Bool.{eqb-true}
use Rattle.std.proofs.lemmas.List.{nil_from_length}
use Rattle.planner_run.proofs.Remarked.{needs_none}
use Rattle.planner_run.proofs.linting.remarks.Goals as goal

pub returns-then-is_empty : goal.returns-then-is_empty
returns-then-is_empty c =
    let found = c.in_ok-found.found in
    let none : (vec_len found == 0) ≡ true = sym c.is_empty.ensures ∙ c.if-is_empty.true in
    let zero : vec_len found ≡ 0 = eqb-true (vec_len found) 0 none in
    let empty = nil_from_length found.items (sym found.ok.0 ∙ zero) in
    (c.new.ensures.items, needs_none c.args.former c.args.document.now found.items empty c.in_ok-found.ensures)
