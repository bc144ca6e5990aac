use Rattle.std.proofs.Common.{◌∙◌, append_assoc, refl}
use Rattle.std.proofs.lemmas.Result.{on_ok_weaker}
use Rattle.refusal_meanings.proofs.illegal.write_range.Goals as goal

pub returns : goal.returns
returns c =
    let name = c.train_of-name.ensures in
    let last = c.last_of-last.ensures.last in
    let table = c.table_of.ensures.table in
    on_ok_weaker c.write.result (λ bytes. bytes ∙ simp (name, last, table, append_assoc) refl) c.write.ensures.bytes
