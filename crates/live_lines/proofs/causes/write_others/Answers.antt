use Rattle.std.proofs.Common.{◌++◌, ◌∙◌, string_bytes, ap}
use Rattle.std.specs.Prelude.{flat_map}
use Rattle.std.proofs.lemmas.List.{take_all}
use Rattle.live_lines.specs.Told.{other_words}
use Rattle.live_lines.proofs.causes.write_others.Goals as goal

pub returns : goal.returns
returns c =
    c.loop-other.invariant
    ∙ ap (λ others. string_bytes c.args.out.now ++ flat_map (other_words c.args.names.now) others)
    (take_all c.loop-other.other-index c.args.others.now c.loop-other-test.false)
