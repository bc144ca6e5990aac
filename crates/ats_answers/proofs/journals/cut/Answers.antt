use Rattle.std.proofs.Common.{◌+◌, refl, arith}
use Rattle.std.proofs.lemmas.List.{take_all, length-drop}
use Rattle.ats_answers.proofs.Cutting.{no_cut, is_cut}
use Rattle.ats_answers.proofs.journals.cut.Goals as goal

pub returns : goal.returns
returns c =
    let rest = length-drop (c.in-Some.place + 9) c.args.input.now in
    (c.in-Some.place, is_cut c.args.input.now c.in-Some.place c.in-Some.ensures, refl, take_all _ _ (omega (arith, rest)))

pub returns-in_default : goal.returns-in_default
returns-in_default c = no_cut c.args.input.now c.in_default.ensures
