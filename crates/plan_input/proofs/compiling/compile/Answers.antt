use Rattle.std.proofs.Common.{rules}
use Rattle.plan_input.specs.Standing.{ReadsAsDocument}
use Rattle.plan_input.proofs.compiling.compile.Goals as goal

pub returns-in-None : goal.returns-in-None
returns-in-None c =
    let taken : ReadsAsDocument c.in_ok-document.document.items = search rules in
    record { plan = c.args.plan; is_plan = search rules; is_text = c.in_ok-document.ensures.text; is_document = taken }
