use Rattle.std.proofs.Common.{◌∙◌, append_assoc, refl}
use Rattle.std.proofs.lemmas.Result.{on_ok_weaker}
use Rattle.state_sentences.proofs.sentences.write_until.Goals as goal

pub returns : goal.returns
returns c = on_ok_weaker c.write.result (λ bytes. bytes ∙ simp (append_assoc) refl) c.write.ensures.bytes
