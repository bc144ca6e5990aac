use Rattle.std.proofs.Common.{◌∙◌, append_assoc, refl}
use Rattle.std.proofs.lemmas.Result.{on_ok_weaker}
use Rattle.svg_text.proofs.writing.push_close.Goals as goal

pub returns : goal.returns
returns c =
    on_ok_weaker c.push_raw-3.result (λ bytes. bytes ∙ simp (c.in_ok-push_raw-2.ensures, c.in_ok-push_raw.ensures, append_assoc) refl) c.push_raw-3.ensures
