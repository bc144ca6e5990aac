use Rattle.zone_machine.proofs.Prelude.{◌∙◌, sym, ap, arith, is_some, is_none}
use Rattle.zone_machine.proofs.Following.{not_begun, begun_whole, begun_before, outside-has}
use Rattle.zone_machine.proofs.Refusing.{from_some}
use Rattle.zone_machine.proofs.programs.has_begun.Goals as goal

pub returns-then-is_some : goal.returns-then-is_some
returns-then-is_some c = not_begun c.args.held.now c.args.needed.now c.requires.held c.requires.needed (sym (ap is_some c.first_outside.ensures) ∙ (sym c.is_some.ensures ∙ c.if-is_some.true))

pub first_from-requires : goal.first_from-requires
first_from-requires c =
    let low = c.requires.low c.in-Some.zone (outside-has c.args.held.now c.args.needed.now c.in-Some.zone (sym c.requires.missing ∙ c.in-Some.is)) in
    omega arith

pub returns-in-Some : goal.returns-in-Some
returns-in-Some c =
    from_some c.first_from.result c.is_none.result c.is_none.ensures
    ∙ (ap is_none c.first_from.ensures
    ∙ begun_before c.args.held.now c.args.needed.now c.requires.held c.requires.needed c.in-Some.zone (sym (ap is_some c.first_outside.ensures) ∙ (sym c.is_some.ensures ∙ c.if-is_some.false)) (sym c.requires.missing ∙ c.in-Some.is))

pub returns-in-None : goal.returns-in-None
returns-in-None c =
    begun_whole c.args.held.now c.args.needed.now c.requires.held c.requires.needed (sym (ap is_some c.first_outside.ensures) ∙ (sym c.is_some.ensures ∙ c.if-is_some.false)) (sym c.requires.missing ∙ c.in-None.is)
