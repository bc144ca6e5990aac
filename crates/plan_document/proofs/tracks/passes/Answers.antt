use Rattle.std.proofs.Common.{◌∙◌, ap}
use Rattle.std.specs.Prelude.{string_bytes}
use Rattle.plan_document.specs.Tracks.{passes_over}
use Rattle.plan_document.proofs.tracks.passes.Goals as goal

pub returns-in-Some-other : goal.returns-in-Some-other
returns-in-Some-other c =
    let lines = c.args.lines.now in
    let switches = c.args.switches.now in
    rw (c.in-Some.is, c.in-Some-other.is) (
    c.passes_over.ensures
    ∙ ap (λ from. passes_over lines switches from c.args.here.now c.as_str-to.result.now) c.as_str-from.ensures.value
    ∙ ap (λ to. passes_over lines switches (string_bytes c.in-Some.one.now) c.args.here.now to) c.as_str-to.ensures.value
    )
