use Rattle.std.proofs.Common.{length, ap, ◌∙◌, subst, sym, List}
use Rattle.std.specs.Prelude.{All}
use Rattle.std.proofs.lemmas.Result.{IfOk-weaker}
use Rattle.rail_model.specs.Table.{Table}
use Rattle.forbidden_states.specs.Forbid.{Stay, AreStays, marked}
use Rattle.ring_sections.specs.Marking.{Excludes}
use Rattle.ring_sections.proofs.Excluded.{rings-stays, excludes_rings}
use Rattle.ring_sections.proofs.marking.mark_rings.Goals as goal

pub marked-requires-clause-stays : goal.marked-requires-clause-stays
marked-requires-clause-stays c =
    subst (λ (all : List (List Stay)). All (AreStays (length c.args.missions)) all) (sym (c.deref.ensures.value ∙ c.in_ok-all.ensures))
    (rings-stays c.args.missions c.args.rings.now c.requires.rings)

pub returns-clause-table : goal.returns-clause-table
returns-clause-table c =
    IfOk-weaker c.marked.result _ _ (λ T is. is ∙ ap (marked c.args.missions) (c.deref.ensures.value ∙ c.in_ok-all.ensures)) c.marked.ensures

pub returns-clause-none_left : goal.returns-clause-none_left
returns-clause-none_left c =
    IfOk-weaker c.marked.result _ _
    (λ T is. subst (λ (t : Table). Excludes t c.args.rings.now)
    (ap (marked c.args.missions) (sym (c.deref.ensures.value ∙ c.in_ok-all.ensures)) ∙ sym is)
    (excludes_rings c.args.missions c.args.rings.now c.requires.rings))
    c.marked.ensures
