use Rattle.std.proofs.Common.{inl}
use Rattle.std.proofs.lemmas.Result.{IfOk-weaker, IfErr-weaker}
use Rattle.ats_answers.proofs.simulating.simulate_alone.Goals as goal

pub returns-clause-simulated : goal.returns-clause-simulated
returns-clause-simulated c =
    IfOk-weaker c.simulate_checked.result _ _ (λ text said. (c.in_ok-checked.checked.doc, c.in_ok-checked.ensures.document, said)) c.simulate_checked.ensures.simulated

pub returns-clause-unchecked : goal.returns-clause-unchecked
returns-clause-unchecked c = IfErr-weaker c.simulate_checked.result _ _ (λ e is. inl is) c.simulate_checked.ensures.memory
