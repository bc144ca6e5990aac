use Rattle.std.proofs.Common.{◌≡◌, ◌∙◌, sym, ap, subst, ◌++◌, List, All, length, map}
use Rattle.std.proofs.lemmas.List.Elements.{All-map}
use Rattle.clash_sections.specs.declared.meetings.Meeting.{Meeting}
use Rattle.clash_sections.specs.Answer.{IsRefused as IsRefusedStands}
use Rattle.clash_sections.specs.Sections.{IsExact as IsExactStands}
use Rattle.plan_crossings.specs.Sections.{IsExactFor, IsSized, seen_section}
use Rattle.plan_crossings.specs.Stands.{meetings, numbers, section_of}
use Rattle.plan_crossings.proofs.Agreeing.{exact-for, sized-for, refused-for}
use Rattle.plan_crossings.proofs.making.sections_for.Goals.{In_ok-add_sections}
use Rattle.plan_crossings.proofs.making.sections_for.Goals as goal

pub returns-in-Err-clause-err : goal.returns-in-Err-clause-err
returns-in-Err-clause-err c =
    let crossing = c.args.crossing.now in
    let stands = c.in_ok-stands.stands.items in
    let are : c.in_ok-clashes.clashes ≡ meetings crossing stands = c.in_ok-clashes.ensures ∙ ap (meetings crossing) c.deref.ensures.value in
    refused-for crossing c.args.routes.now stands c.in-Err.refused c.in_ok-stands.ensures
    (subst (λ (C : List (List Meeting)). IsRefusedStands C c.in-Err.refused) are c.in-Err.ensures.refused)

-- what is made are the sections by stands
made-are : (c : In_ok-add_sections) → map seen_section c.add_sections.new.found.items
    ≡ map (section_of (numbers c.args.crossing.now c.args.routes.now c.in_ok-stands.stands.items)) c.in-Ok.sections.items
made-are c =
    let rows : c.deref-3.result.now ≡ numbers c.args.crossing.now c.args.routes.now c.in_ok-stands.stands.items =
    c.deref-3.ensures.value ∙ c.in_ok-rows.ensures ∙ ap (numbers c.args.crossing.now c.args.routes.now) c.deref-2.ensures.value in
    c.in_ok-add_sections.ensures
    ∙ (λ i. map seen_section (c.new-made.ensures.items i) ++ map (section_of (rows i)) (c.deref-4.ensures.value i))

pub returns-clause-exact : goal.returns-clause-exact
returns-clause-exact c =
    let at = goal.at.returns-clause-exact c in
    let crossing = c.args.crossing.now in
    let stands = c.in_ok-stands.stands.items in
    let are : c.in_ok-clashes.clashes ≡ meetings crossing stands = c.in_ok-clashes.ensures ∙ ap (meetings crossing) c.deref.ensures.value in
    subst (IsExactFor crossing c.args.routes.now) (sym (made-are at.In_ok-add_sections))
    (exact-for crossing c.args.routes.now stands c.in-Ok.sections.items c.in_ok-stands.ensures
    (subst (λ (C : List (List Meeting)). IsExactStands C c.in-Ok.sections.items) are c.in-Ok.ensures.exact))

pub returns-clause-sized : goal.returns-clause-sized
returns-clause-sized c =
    let at = goal.at.returns-clause-sized c in
    let stands = c.in_ok-stands.stands.items in
    subst (All (IsSized c.args.routes.now)) (sym (made-are at.In_ok-add_sections))
    (All-map (IsSized c.args.routes.now) (section_of (numbers c.args.crossing.now c.args.routes.now stands)) c.in-Ok.sections.items
    (λ k d lt. sized-for c.args.crossing.now c.args.routes.now stands (length c.in_ok-clashes.clashes) _ (c.in-Ok.ensures.sized k d lt)))
