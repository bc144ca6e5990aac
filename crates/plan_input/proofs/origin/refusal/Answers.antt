use Rattle.std.proofs.Common.{◌∙◌, codes, sym, append_assoc}
use Rattle.std.proofs.lemmas.Result.{IfOk-weaker}
use Rattle.plan_input.proofs.origin.refusal.Goals as goal

pub returns : goal.returns
returns c =
    let line = c.as_str-line.result.now in
    IfOk-weaker c.format.result _ _ (λ text is. (line, is ∙ sym (append_assoc c.args.name.now (codes ": ") line))) c.format.ensures.ok
