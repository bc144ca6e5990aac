use Rattle.zone_yard.proofs.Prelude.{◌≡◌, ◌<◌, ◌+◌, ◌-◌, ◌∙◌, ℕ, Option, [], length, map, sym, ap, subst, arith, unwrap_or, below, Table, Offer, Yard, offer, Position, number_in, known_table, Actor, core, knower}
use Rattle.std.specs.Prelude.{sum}
use Rattle.rail_model.specs.State.{Legal}
use Rattle.zone_machine.specs.Entries.{known_positions, moves_to}
use Rattle.zone_machine.specs.Needs.{table_of}
use Rattle.zone_machine.specs.World.{Setup as CoreSetup}
use Rattle.zone_machine.proofs.ControlEnters.{same_tried}
use Rattle.zone_yard.proofs.Turning.{offer_here}
use Rattle.zone_yard.proofs.exchanging.told_of_next.Goals as goal

pub tell-requires-clause-legal : goal.tell-requires-clause-legal
tell-requires-clause-legal c =
    let S : CoreSetup = core c.args.yard.now.setup in
    let a : Actor = knower c.args.known.now c.args.tried in
    let t = c.requires.asked in
    let keyed : c.tables-tables.result.now ≡ S.tables = c.tables-tables.ensures.given in
    let table_is : c.unwrap_or-table.result ≡ known_table a = c.unwrap_or-table.ensures ∙ ap (λ (o : Option ℕ). unwrap_or o 0) c.number.ensures in
    let low : c.unwrap_or-table.result < length c.tables-tables.result.now = (let n = ap length keyed in omega (arith, n, table_is, t.table)) in
    let old_is : c.table.result.now ≡ table_of S (known_table a) =
    c.table.ensures.given ∙ (ap (λ (o : Offer). o.table) (offer_here c.tables-tables.result.now c.unwrap_or-table.result c.index-tables-table.result low c.index-tables-table.is)
    ∙ (λ i. (offer (keyed i) (table_is i)).table)) in
    let positions_are : c.note_positions.new.positions ≡ known_positions S a = c.note_positions.ensures ∙ ap (λ n. map (λ i. number_in c.args.known.now (Position i)) (below n)) c.requires.one_each in
    subst (λ (T : Table). Legal T c.note_positions.new.positions) (sym old_is) (subst (Legal (table_of S (known_table a))) (sym positions_are) t.legal)

pub returns-clause-told : goal.returns-clause-told
returns-clause-told c =
    let S : CoreSetup = core c.args.yard.now.setup in
    let a : Actor = knower c.args.known.now c.args.tried in
    let t = c.requires.asked in
    let keyed : c.tables-tables.result.now ≡ S.tables = c.tables-tables.ensures.given in
    let table_is : c.unwrap_or-table.result ≡ known_table a = c.unwrap_or-table.ensures ∙ ap (λ (o : Option ℕ). unwrap_or o 0) c.number.ensures in
    let low : c.unwrap_or-table.result < length c.tables-tables.result.now = (let n = ap length keyed in omega (arith, n, table_is, t.table)) in
    let old_is : c.table.result.now ≡ table_of S (known_table a) =
    c.table.ensures.given ∙ (ap (λ (o : Offer). o.table) (offer_here c.tables-tables.result.now c.unwrap_or-table.result c.index-tables-table.result low c.index-tables-table.is)
    ∙ (λ i. (offer (keyed i) (table_is i)).table)) in
    let positions_are : c.note_positions.new.positions ≡ known_positions S a = c.note_positions.ensures ∙ ap (λ n. map (λ i. number_in c.args.known.now (Position i)) (below n)) c.requires.one_each in
    let next_low : c.args.tried + 1 < length c.tables-tables.result.now = (let n = ap length keyed in omega (arith, n, t.next)) in
    let next_is : c.index-tables-tried.result ≡ offer S.tables (c.args.tried + 1) =
    offer_here c.tables-tables.result.now (c.args.tried + 1) c.index-tables-tried.result next_low c.index-tables-tried.is ∙ ap (λ l. offer l (c.args.tried + 1)) keyed in
    let opening_is : c.opening.result.now ≡ S.opening = c.opening.ensures.given in
    let moves_are : c.moves_to-moves.result ≡ moves_to S c.note_positions.new.positions =
    c.moves_to-moves.ensures ∙ ap (λ (y : Yard). sum c.note_positions.new.positions + y.moves - sum y.positions) opening_is in
    same_tried S (record { words = []; history = []; actors = [] }) a c.table.result.now c.index-tables-tried.result c.note_positions.new.positions c.moves_to-moves.result c.tell.result old_is next_is positions_are moves_are c.tell.ensures
