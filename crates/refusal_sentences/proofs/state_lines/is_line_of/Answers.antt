use Rattle.std.proofs.Common.{inl}
use Rattle.std.proofs.lemmas.Result.{IfOk-weaker}
use Rattle.refusal_sentences.proofs.state_lines.is_line_of.Goals as goal

pub returns-in-None : goal.returns-in-None
returns-in-None c = IfOk-weaker c.is_stuck.result _ _ (λ is named h. inl (named h)) c.is_stuck.ensures
