use Rattle.std.proofs.Common.{refl, ◌≡◌, ◌∷◌, ◌++◌, [], ◌∙◌, ap, subst, sym, arith, length, length-append, List}
use Rattle.std.specs.Prelude.{All}
use Rattle.rail_model.specs.Table.{Mission, Table}
use Rattle.cert_maker.specs.declared.made.Made.TheVariants.{Stuck as found}
use Rattle.forbidden_states.specs.Forbid.{Stay, AreStays, marked}
use Rattle.section_repair.proofs.Reached.{round_of, next-stays, went_on}
use Rattle.section_repair.proofs.rounds.treat.Goals as goal

pub marked-requires-clause-stays : goal.marked-requires-clause-stays
marked-requires-clause-stays c =
    let round = c.args.round in
    let reached = c.requires.under_way.reached in
    let sections = c.in_ok-sections.sections.items in
    let further = round_of round.table.missions round.budget.nodes reached.0 round.sections.items round.table c.args.at sections (found c.args.at)
    reached.1 c.requires.stuck refl c.in_ok-sections.ensures.treated in
    subst (λ (l : List (List Stay)). All (AreStays (length c.into_missions.result)) l) (sym c.deref.ensures.value)
    (subst (λ (ms : List Mission). All (AreStays (length ms)) sections) (sym (c.into_missions.ensures.missions ∙ c.requires.under_way.missions)) (next-stays further))

pub returns-clause-turn : goal.returns-clause-turn
returns-clause-turn c =
    let round = c.args.round in
    let at = c.args.at in
    let reached = c.requires.under_way.reached in
    let sections = c.in_ok-sections.sections.items in
    let further = round_of round.table.missions round.budget.nodes reached.0 round.sections.items round.table at sections (found at)
    reached.1 c.requires.stuck refl c.in_ok-sections.ensures.treated in
    let made : c.in_ok-next.next ≡ marked round.table.missions sections =
    c.in_ok-next.ensures
    ∙ ap (λ (ms : List Mission). marked ms c.deref.result.now) (c.into_missions.ensures.missions ∙ c.requires.under_way.missions)
    ∙ ap (marked round.table.missions) c.deref.ensures.value in (
      record {
        reached = (
          reached.0 ++ at ∷ [],
          went_on further c.in_ok-next.next (omega (arith, c.len.ensures, c.if-len-gt-MOST_SECTIONS.false)) made,
          omega (arith, reached.2, length-append reached.0 (at ∷ [])),
        );
        missions = ap (λ (t : Table). t.missions) (sym made);
        connections = ap (λ (t : Table). t.connections) reached.1.table ∙ sym (ap (λ (t : Table). t.connections) made);
      },
      refl,
      omega arith,
      omega (arith, c.requires.within, c.if-used-rounds.false),
    )
