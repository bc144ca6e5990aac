use Rattle.std.proofs.Common.{List, ℕ, ◌+◌, Some, ◌∙◌, ap, sym, subst}
use Rattle.ats_io.specs.Bytes.{ConsumesAtMost}
use Rattle.ats_io.specs.Memory.{Supply}
use Rattle.ats_run.specs.Causes.{most_bytes}
use Rattle.ats_rows.proofs.InMemory.{source_failed, sink_failed, served_weaker, wrote, wrote_part, told_line, told_nothing, never_rises}
use Rattle.ats_rows.proofs.calls.play_on.Goals as goal

pub returns : goal.returns
returns g c =
    let a = c.ats-status.ensures in
    let copy = c.in_ok-copied.ensures ∙ c.bytes.ensures in
    let told = c.in_ok-copied_of.ensures in
    let rest = c.in_ok-copied-2.ensures ∙ c.left.ensures in
    let source = source_failed _ _ _ _ _ c.requires.source c.calls.ensures.count c.calls.ensures.failed in
    let sink = sink_failed _ _ _ _ _ _ _ c.requires.sink c.calls-2.ensures.count copy c.calls-2.ensures.failed in
    record {
      done = λ is. served_weaker _ _ _ _ _ _ rest (λ written. wrote _ _ _ written c.requires.written copy) (a.done is);
      quiet = λ is. told_nothing _ _ _ c.requires.told told (a.quiet is);
      refused = λ is. told_line _ _ _ _ _ _ _ _ (λ end. rest ∙ end) source sink _ _ _ _ _ c.requires.told told never_rises (a.refused is);
      nothing = λ is more. wrote _ _ _ _ c.requires.written copy (a.nothing is more);
      prefix = λ is. served_weaker _ _ _ _ _ _ rest (λ written. wrote_part _ _ _ written c.requires.written copy) (a.prefix is);
      complete = λ order bytes asked held good no_source no_sink. a.complete order bytes asked held good (λ rose. no_source (source rose)) (λ rose. no_sink (sink rose));
      untouched = λ none. rest ∙ ap (λ (s : Supply). s.left) (a.untouched none);
      at_most = subst (λ (xs : List ℕ). ConsumesAtMost (most_bytes + 1) (Some c.args.source.now.left) (Some xs)) (sym rest) a.at_most;
    }
