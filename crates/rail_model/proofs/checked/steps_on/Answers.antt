use Rattle.std.proofs.Common.{◌∙◌, ◌==◌, ℕ, List, zip, not, sym, ap}
use Rattle.std.specs.List.{list_all}
use Rattle.rail_model.specs.Checks.{steps_on}
use Rattle.rail_model.proofs.MissionTests.{steps-zipped}
use Rattle.rail_model.proofs.checked.steps_on.Goals as goal

pub returns-in-Some : goal.returns-in-Some
returns-in-Some c =
    let is = c.in-Some.ensures.cases.0 in
    let later = c.in-Some.later.now in
    c.differ.ensures ∙ ap (λ (points : List ℕ). list_all (λ (pair : ℕ × ℕ). not (pair.0 == pair.1)) (zip points later)) is
    ∙ steps-zipped c.in-Some.field-0-0.now later ∙ sym (ap steps_on is)
