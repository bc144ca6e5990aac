use Rattle.std.proofs.Common.{◌++◌, ◌∙◌, ap}
use Rattle.std.specs.Prelude.{flat_map}
use Rattle.std.proofs.lemmas.List.{take_all}
use Rattle.live_lines.specs.Lines.{line_of}
use Rattle.live_lines.proofs.help.push_rows.Goals as goal

pub returns : goal.returns
returns c =
    c.loop-row.invariant
    ∙ ap (λ rows. c.args.out.now.items ++ flat_map (λ row. line_of c.args.tag.now row.now) rows)
    (take_all c.loop-row.row-index c.args.rows.now c.loop-row-test.false)
