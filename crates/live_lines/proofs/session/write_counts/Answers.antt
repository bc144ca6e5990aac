use Rattle.std.proofs.Common.{◌∙◌, append_assoc, refl}
use Rattle.std.proofs.lemmas.Result.{on_ok_weaker}
use Rattle.live_lines.proofs.session.write_counts.Goals as goal

pub returns : goal.returns
returns c = on_ok_weaker c.write.result (λ bytes. bytes ∙ simp (append_assoc) refl) c.write.ensures.bytes
