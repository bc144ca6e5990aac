use Rattle.std.proofs.Common.{rules, ◌≡◌, ◌<◌, OnOk, length, string_bytes, subst}
use Rattle.run_sentences.proofs.RunLines.{put_on}
use Rattle.run_sentences.proofs.telling.push_run.Goals as goal

pub returns : goal.returns
returns c =
    let some : 0 < length c.args.lines.now = search rules in
    subst (λ b. OnOk c.push_lines.result (string_bytes c.push_lines.new.out ≡ b))
    (put_on c.args.names.now c.args.lines.now (string_bytes c.args.out.now) (string_bytes c.push_str-2.new.self) some c.in_ok-push_str.ensures.bytes)
    c.push_lines.ensures
