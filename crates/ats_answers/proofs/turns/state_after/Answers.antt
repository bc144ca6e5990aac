use Rattle.std.proofs.Common.{◌<◌, List, length, sym, ap, ◌∙◌, subst}
use Rattle.std.proofs.lemmas.List.{map-id}
use Rattle.std.proofs.lemmas.Result.{IfOk-weaker}
use Rattle.rail_model.specs.Table.{trains}
use Rattle.rail_model.specs.Yard.{Offer, offer}
use Rattle.document_json.proofs.Offered.{given_on_layout}
use Rattle.ats_answers.proofs.Turned.{same_setup, first_offer, plain_is, legal_is}
use Rattle.ats_answers.proofs.turns.state_after.Goals as goal

pub new-requires-clause-points : goal.new-requires-clause-points
new-requires-clause-points c = given_on_layout c.args.doc.now c.layout.result.now c.args.tables.now c.layout.ensures.formed c.layout.ensures.layout c.requires.tables

pub returns-clause-plain : goal.returns-clause-plain
returns-clause-plain c =
    let D = c.args.doc.now in
    let tables = map-id c.args.tables.now ∙ c.requires.tables in
    let core_is = c.in_ok-core.ensures.setup ∙ same_setup _ _ _ _ _ _ _ _ c.layout.ensures.layout tables c.start.ensures.start c.from.ensures in
    let some : 0 < length c.args.tables.now = subst (λ (os : List Offer). 0 < length os) (sym c.requires.tables) c.layout.ensures.formed.tables.some in
    let first = first_offer c.args.tables.now c.index-tables-0.result some c.index-tables-0.is ∙ ap (λ (os : List Offer). offer os 0) c.requires.tables in
    let count_is = c.trains_of.ensures.count ∙ ap trains (c.table.ensures.given ∙ ap (λ (o : Offer). o.table) first) in
    IfOk-weaker c.plain.result _ _
    (λ state is. is ∙ plain_is D c.args.seed c.args.turns c.trains_of.result c.in_ok-core.core.setup c.make_turns.new.core.setup c.in_ok-core.core.world c.make_turns.new.core.world
    core_is c.make_turns.ensures.setup count_is c.in_ok-core.ensures.opened c.make_turns.ensures.world)
    c.plain.ensures

pub returns-clause-legal : goal.returns-clause-legal
returns-clause-legal c =
    let D = c.args.doc.now in
    let tables = map-id c.args.tables.now ∙ c.requires.tables in
    let core_is = c.in_ok-core.ensures.setup ∙ same_setup _ _ _ _ _ _ _ _ c.layout.ensures.layout tables c.start.ensures.start c.from.ensures in
    let some : 0 < length c.args.tables.now = subst (λ (os : List Offer). 0 < length os) (sym c.requires.tables) c.layout.ensures.formed.tables.some in
    let first = first_offer c.args.tables.now c.index-tables-0.result some c.index-tables-0.is ∙ ap (λ (os : List Offer). offer os 0) c.requires.tables in
    let count_is = c.trains_of.ensures.count ∙ ap trains (c.table.ensures.given ∙ ap (λ (o : Offer). o.table) first) in
    IfOk-weaker c.plain.result _ _
    (λ state is. legal_is D c.args.seed c.args.turns c.trains_of.result c.in_ok-core.core.setup c.make_turns.new.core.setup c.in_ok-core.core.world c.make_turns.new.core.world
    core_is c.make_turns.ensures.setup count_is c.in_ok-core.ensures.opened c.make_turns.ensures.world c.make_turns.ensures.sound.legal)
    c.plain.ensures
