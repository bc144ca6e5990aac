use Rattle.std.proofs.Common.{◌∙◌, sym}
use Rattle.rail_model.proofs.Firsts.{result_err-is}
use Rattle.section_marks.proofs.Sequence.{sections_stop, sections_go}
use Rattle.section_marks.proofs.making.check_each.Goals as goal

pub returns-in_err-check_section : goal.returns-in_err-check_section
returns-in_err-check_section c =
    let e = c.in_err-check_section.field-0.0 in
    result_err-is c.from_residual.result e c.from_residual.ensures.1
    ∙ sym (sections_stop c.args.marks c.args.missions.now c.args.sections.now c.loop-number.number c.index-sections-number.result e c.loop-number-test.true c.index-sections-number.is
    c.in_err-check_section.ensures c.loop-number.invariant)

pub loop-number-preserved : goal.loop-number-preserved
loop-number-preserved c =
    sections_go c.args.marks c.args.missions.now c.args.sections.now c.loop-number.number c.index-sections-number.result c.loop-number-test.true c.index-sections-number.is
    c.in_ok-check_section.ensures c.loop-number.invariant
