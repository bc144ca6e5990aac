use Rattle.std.proofs.Common.{◌≡◌, ◌∙◌, None, Ok, ap, sym, subst}
use Rattle.rail_model.specs.Table.{AreMissions, IsTable}
use Rattle.rail_model.proofs.Firsts.{Err-is}
use Rattle.section_marks.specs.Marking.{sections_refusal}
use Rattle.section_marks.proofs.Made.{table_of, table_err, table_ok, is_table}
use Rattle.section_marks.proofs.making.sections.Goals.{In_ok-check_sections, After-new-connections}
use Rattle.section_marks.proofs.making.sections.Goals as goal

-- the sections that are given pass the checks
passes : (c : In_ok-check_sections) → None ≡ sections_refusal c.args.marks c.args.missions c.args.sections.items
passes c = c.in_ok-check_sections.ensures ∙ ap (sections_refusal c.args.marks c.args.missions) c.deref.ensures.value

-- and are those of the table that is made
made : (c : After-new-connections) → table_of c.args.missions c.args.sections.items
    ≡ record { missions = c.args.missions; sections = c.args.sections.items; connections = c.new-connections.result.items }
made c = λ i. record { missions = c.args.missions; sections = c.args.sections.items; connections = sym c.new-connections.ensures.items i }

pub returns-in_err-check_sections : goal.returns-in_err-check_sections
returns-in_err-check_sections c =
    let e = c.in_err-check_sections.field-0.0 in
    let row = c.in_err-check_sections.ensures ∙ ap (sections_refusal c.args.marks c.args.missions) c.deref.ensures.value in
    Err-is c.from_residual.result e c.from_residual.ensures.1 ∙ sym (table_err c.args.marks c.args.missions c.args.sections.items e row)

pub new-requires : goal.new-requires
new-requires c =
    let at = goal.at.new-requires c in
    let formed : AreMissions c.args.missions = subst AreMissions c.missions.view_is c.missions.invariant in
    subst IsTable (made at.After-new-connections)
    (is_table c.args.marks c.args.missions c.args.sections.items formed (sym (passes at.In_ok-check_sections)))

pub returns : goal.returns
returns c =
    let at = goal.at.returns c in
    ap Ok (c.new.ensures ∙ sym (made at.After-new-connections))
    ∙ sym (table_ok c.args.marks c.args.missions c.args.sections.items (passes at.In_ok-check_sections))
