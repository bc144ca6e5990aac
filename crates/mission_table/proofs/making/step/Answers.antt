use Rattle.std.proofs.Common.{◌∙◌, sym}
use Rattle.mission_table.proofs.Steps.{step_unknown, step_cut, step_made}
use Rattle.mission_table.proofs.making.step.Goals as goal

pub returns-in_default : goal.returns-in_default
returns-in_default c = step_unknown c.args.tracks.now c.args.train c.args.place c.args.before c.args.name.now c.in_default.ensures.first

pub returns-then-is_cut : goal.returns-then-is_cut
returns-then-is_cut c =
    step_cut c.args.tracks.now c.args.train c.args.place c.args.before c.args.name.now c.in-Some.point c.in-Some.ensures.first (sym c.is_cut.ensures ∙ c.if-is_cut.true)

pub returns : goal.returns
returns c =
    step_made c.args.tracks.now c.args.train c.args.place c.args.before c.args.name.now c.in-Some.point c.in-Some.ensures.first (sym c.is_cut.ensures ∙ c.if-is_cut.false)
