use Rattle.std.proofs.Common.{◌++◌, ◌∙◌, ap, codes, decimal, get_or, string_bytes, None}
use Rattle.rail_model.specs.Journal.{words}
use Rattle.rail_model.specs.declared.types.Line.TheVariants.{Move}
use Rattle.ats_answers.proofs.Simulated.{timed_more}
use Rattle.ats_answers.proofs.simulating.push_timed.Goals as goal

pub loop-index-preserved : goal.loop-index-preserved
loop-index-preserved c =
    let N = c.args.names.now in
    let i = c.loop-index.index in
    let out = string_bytes c.loop-index.out in
    let line = words N (get_or c.args.lines.now i (Move 0 0 None)) in
    timed_more N c.args.ticks.now c.args.lines.now i (Move 0 0 None) _ _ _ c.loop-index-test.true c.requires.one_each c.loop-index.invariant
    (c.in_ok-push_line.ensures.text ∙ ap (λ n. out ++ (decimal n ++ line ++ codes "\n")) c.from.ensures)
