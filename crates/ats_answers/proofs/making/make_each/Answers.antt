use Rattle.std.proofs.Common.{◌≡◌, ◌⊎◌, ◌∷◌, ◌++◌, length, map, sym, ◌∙◌, ap, subst, arith}
use Rattle.std.specs.Vec.Iter.{into_iter_items}
use Rattle.std.proofs.lemmas.Grind.{common_steps}
use Rattle.std.proofs.lemmas.List.{length-map}
use Rattle.document_json.proofs.Refusals.{refused-so}
use Rattle.ats_answers.specs.declared.failure.Failure.TheVariants.{Memory as NoMemory}
use Rattle.ats_answers.specs.Making.{MakesNone, FailsToMake}
use Rattle.ats_answers.proofs.Made.{none_at, table_behind, some_behind, part_more}
use Rattle.ats_answers.proofs.making.make_each.Goals as goal

pub make_next-requires : goal.make_next-requires
make_next-requires c =
    let all = c.args.tables.items in
    let done = c.loop-table.yielded in
    let rest = into_iter_items c.next.new.self in
    let whole : all ≡ done ++ c.in-Some.table ∷ rest = grind (arith, common_steps, c.in-Some.ensures.steps) in
    let number = sym (length-map c.loop-table.parts.items (λ p. p.0)) ∙ ap length c.loop-table.invariant.3 in
    omega (arith, number, some_behind all done rest c.in-Some.table whole, c.requires.few)

pub returns-in_err-make_next-clause-unmade : goal.returns-in_err-make_next-clause-unmade
returns-in_err-make_next-clause-unmade c =
    let all = c.args.tables.items in
    let done = c.loop-table.yielded in
    let rest = into_iter_items c.next.new.self in
    let T = c.in-Some.table in
    let e = c.in_err-make_next.field-0.0 in
    let whole : all ≡ done ++ T ∷ rest = grind (arith, common_steps, c.in-Some.ensures.steps) in
    let number = sym (length-map c.loop-table.parts.items (λ p. p.0)) ∙ ap length c.loop-table.invariant.3 in
    let none = subst (λ n. (e ≡ NoMemory) ⊎ MakesNone T n c.args.budget.nodes e) number c.in_err-make_next.ensures.none in
    refused-so (λ e. (e ≡ NoMemory) ⊎ FailsToMake all c.args.budget.nodes e) c.from_residual.result e c.from_residual.ensures.1
    (none_at all c.args.budget.nodes (length done) (map (λ p. p.1) c.loop-table.parts.items) T e c.loop-table.invariant.4 (some_behind all done rest T whole)
    (table_behind all done rest T whole) none)

pub loop-table-preserved : goal.loop-table-preserved
loop-table-preserved c =
    let all = c.args.tables.items in
    let done = c.loop-table.yielded in
    let rest = into_iter_items c.next.new.self in
    let T = c.in-Some.table in
    let part = c.in_ok-make_next.ensures.part in
    let whole : all ≡ done ++ T ∷ rest = grind (arith, common_steps, c.in-Some.ensures.steps) in
    let more =
    part_more all c.args.budget.nodes done rest c.loop-table.parts.items c.make_next.new.parts.items T part.0 whole c.loop-table.invariant.3
    c.loop-table.invariant.4 part.1 part.2 part.3 in
    (tt, tt, grind (arith, common_steps, whole), more.0, more.1)
