use Rattle.std.proofs.Common.{◌∙◌, ◌<◌, ap, sym, subst, length}
use Rattle.rail_model.specs.Move.{Move, advance}
use Rattle.live_yard.specs.Reported.{MayGoOn, Reported, granted, positions_of, table_of}
use Rattle.live_yard.proofs.Following.{granted_is, has_room, keeps_granted}
use Rattle.live_yard.proofs.Answered.{answered_grant}
use Rattle.live_yard.proofs.Indexing.{indexed_grant, next_room, next_within}
use Rattle.live_yard.proofs.reported.ReportedYard.grant.Goals as goal

pub move_train-requires : goal.move_train-requires
move_train-requires g c =
    subst (λ (v : Reported). Move (table_of v) (positions_of v) c.args.train (advance (positions_of v) c.args.train))
    (sym c.self.view_is) c.requires.may.moves

pub arrive-requires-clause-train : goal.arrive-requires-clause-train
arrive-requires-clause-train g c =
    subst (λ (v : Reported). c.args.train < length v.there) (sym c.self.view_is) c.requires.train

pub arrive-requires-clause-room : goal.arrive-requires-clause-room
arrive-requires-clause-room g c =
    has_room _ _ c.args.train c.self.invariant.0
    (subst (λ (v : Reported). MayGoOn v c.args.train) (sym c.self.view_is) c.requires.may)
    c.move_train.ensures.moved c.move_train.ensures.formed

pub note_grant-requires-clause-train : goal.note_grant-requires-clause-train
note_grant-requires-clause-train g c =
    next_within _ _ c.args.train c.self.invariant.0
    (subst (λ (v : Reported). c.args.train < length v.there) (sym c.self.view_is) c.requires.train)
    c.move_train.ensures.moved

pub note_grant-requires-clause-room : goal.note_grant-requires-clause-room
note_grant-requires-clause-room g c =
    next_room _ _ c.args.train _ c.self.invariant.0 c.self.invariant.1
    (subst (λ (v : Reported). c.args.train < length v.there) (sym c.self.view_is) c.requires.train)
    (subst (λ (v : Reported). MayGoOn v c.args.train) (sym c.self.view_is) c.requires.may)
    c.move_train.ensures.moved c.move_train.ensures.formed

pub invariant_of-self : goal.invariant_of-self
invariant_of-self g c =
    let within = subst (λ (v : Reported). c.args.train < length v.there) (sym c.self.view_is) c.requires.train in (
      keeps_granted _ _ _ c.args.train c.self.invariant.0 within c.move_train.ensures.moved c.arrive.ensures
          c.move_train.ensures.keeps c.move_train.ensures.few,
      indexed_grant _ _ c.args.train _ _ c.self.invariant.0 c.self.invariant.1 within
          (subst (λ (v : Reported). MayGoOn v c.args.train) (sym c.self.view_is) c.requires.may)
          c.move_train.ensures.moved c.move_train.ensures.formed c.note_grant.ensures,
      answered_grant _ _ c.args.train _ c.self.invariant.2 c.move_train.ensures.moved,
    )

pub returns : goal.returns
returns g c =
    let u : Reported =
    record { run = c.self.inside.run; there = c.self.inside.there; reports = c.self.inside.reports } in
    granted_is u _ _ c.args.train c.move_train.ensures.moved c.arrive.ensures
    ∙ ap (λ (v : Reported). granted v c.args.train) c.self.view_is
