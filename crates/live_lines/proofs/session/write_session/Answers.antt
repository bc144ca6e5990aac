use Rattle.std.proofs.Common.{string_bytes}
use Rattle.std.specs.Prelude.{codes}
use Rattle.live_lines.specs.Session.{counts_words}
use Rattle.live_lines.proofs.Steps.{added_then}
use Rattle.live_lines.proofs.session.write_session.Goals as goal

pub returns-in_ok-push_str-in-State : goal.returns-in_ok-push_str-in-State
returns-in_ok-push_str-in-State c =
    rw c.in-State.is
    (added_then c.write_counts-in-State.result (string_bytes c.args.out.now) (codes "state") (counts_words
    c.in-State.counts)
    (string_bytes c.push_str.new.self) (string_bytes c.write_counts-in-State.new.out)
    c.in_ok-push_str-in-State.ensures.bytes c.write_counts-in-State.ensures)
