use Rattle.std.proofs.Common.{List, ℕ, sym, subst}
use Rattle.std.proofs.lemmas.Result.{IfOk-weaker}
use Rattle.plan_input.specs.Origin.{SayMistakes}
use Rattle.plan_input.proofs.Mistakes.{say_mistakes}
use Rattle.plan_input.proofs.origin.mistakes.Goals as goal

pub returns : goal.returns
returns c =
    let name = c.args.name.now in
    IfOk-weaker c.mistake_lines.result _ _
    (λ lines is. subst (λ (words : List ℕ). SayMistakes name words) (sym is) (say_mistakes name c.args.faults.now c.requires))
    c.mistake_lines.ensures
