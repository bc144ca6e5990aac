use Rattle.std.proofs.lemmas.Result.{IfOk-weaker}
use Rattle.report_page.proofs.writing.page.Goals as goal

pub returns : goal.returns
returns c = IfOk-weaker c.page_with.result _ _ (λ text is. record { style = _; script = _; is_text = is }) c.page_with.ensures
