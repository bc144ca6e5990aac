use Rattle.std.proofs.Common.{subst, arith}
use Rattle.std.proofs.lemmas.Int.{ints}
use Rattle.std.proofs.lemmas.Option.{slice_get_within}
use Rattle.live_yard.specs.declared.told.Told.{Told}
use Rattle.rail_model.proofs.Shares.{count_advance}
use Rattle.live_answers.specs.Seen.{IsTold}
use Rattle.live_answers.proofs.prospects.prospect_of.Goals as goal

pub room_of-room-requires-clause-more : goal.room_of-room-requires-clause-more
room_of-room-requires-clause-more c =
    let v = c.args.scene.now in
    let told = subst (λ (t : Told). IsTold v c.args.train t) c.in-Full.is c.requires.told in
    let legal = c.table-table.ensures.legal in
    let next = count_advance v.table c.in-Full.section c.args.train v.positions legal.one_each c.requires.train in
    omega (arith, ints, next, legal.within c.in-Full.section told.2.0.0, told.2.0.1)

pub by_connection-requires : goal.by_connection-requires
by_connection-requires c =
    let told = subst (λ (t : Told). IsTold c.args.scene.now c.args.train t) c.in-Waits.is c.requires.told in
    slice_get_within c.args.scene.now.table.connections c.in-Waits.connection told.3.0.0 told.3.0.1
