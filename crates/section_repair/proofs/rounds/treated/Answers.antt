use Rattle.std.proofs.Common.{◌<◌, length, arith, ap, subst, sym, ◌∙◌, List}
use Rattle.std.specs.Prelude.{All}
use Rattle.std.proofs.lemmas.Result.{IfOk-weaker}
use Rattle.rail_model.specs.Table.{trains}
use Rattle.forbidden_states.specs.Forbid.{Stay}
use Rattle.section_repair.specs.Core.{core}
use Rattle.section_repair.specs.Joining.{stays_of, settled}
use Rattle.section_repair.proofs.Reached.{core-below}
use Rattle.section_repair.proofs.Steps.{settled-length}
use Rattle.section_repair.proofs.rounds.treated.Goals as goal

pub stays_of-requires : goal.stays_of-requires
stays_of-requires c =
    let T = c.args.table.now in
    let all = subst (λ n. All (λ j. j < n) c.in_ok-group.group) (sym c.requires.legal.one_each)
    (subst (λ v. All (λ j. j < trains T) v) (sym c.in_ok-group.ensures) (core-below T c.args.at.now)) in
    all

pub returns-clause-treated : goal.returns-clause-treated
returns-clause-treated c =
    let p = c.args.at.now in
    let stays = c.in_ok-stays.ensures ∙ ap (stays_of p) (c.in_ok-group.ensures ∙ ap (λ t. core t p) c.requires.table) in
    IfOk-weaker c.settled.result _ _ (λ next is. is ∙ ap (settled c.args.sections.items) stays) c.settled.ensures

pub returns-clause-count : goal.returns-clause-count
returns-clause-count c =
    let S = c.args.sections.items in
    IfOk-weaker c.settled.result _ _
    (λ next is. omega (arith, ap (λ (l : List (List Stay)). length l) is, settled-length (length S) S c.in_ok-stays.stays))
    c.settled.ensures
