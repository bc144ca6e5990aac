use Rattle.std.proofs.Common.{arith}
use Rattle.std.proofs.lemmas.Int.{ints}
use Rattle.rail_model.proofs.Shares.{count_advance}
use Rattle.legal_state.proofs.moves.lacks_room.Goals as goal

pub returns-then-change_at-le0 : goal.returns-then-change_at-le0
returns-then-change_at-le0 c =
    let T = c.args.table.now in
    let p = c.args.state.now in
    let advance = count_advance T c.args.section c.args.train p c.requires.legal.one_each c.requires.train in
    let within = c.requires.legal.within c.args.section c.requires.section in
    let next = c.requires.next.0 in
    (λ e. absurd cc, λ over. let past = over.1 in grind (arith, ints))
