use Rattle.std.proofs.Common.{◌≡◌, ◌++◌, append_assoc, string_bytes, OnOk, subst, ap, ◌∙◌}
use Rattle.std.specs.Prelude.{codes}
use Rattle.refusal_lines.specs.Starts.{illegal_words}
use Rattle.refusal_lines.proofs.starts.write_start.Goals as goal

pub returns : goal.returns
returns c =
    subst (λ bytes. OnOk c.write_illegal.result (string_bytes c.write_illegal.new.out ≡ bytes))
    (ap (λ front. front ++ illegal_words c.args.cause.now) c.in_ok-write.ensures.bytes ∙ append_assoc (string_bytes c.args.out.now) (codes "112 StartIllegal ") (illegal_words c.args.cause.now))
    c.write_illegal.ensures
