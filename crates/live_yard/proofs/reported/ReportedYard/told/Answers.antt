use Rattle.std.proofs.Common.{◌∙◌, ◌<◌, length, sym, ap, subst}
use Rattle.rail_model.specs.Yard.{Yard}
use Rattle.live_yard.specs.Reported.{Reported, TellsTrain}
use Rattle.live_yard.proofs.Following.{legal_at, reports_at, tells_at, train_at}
use Rattle.live_yard.proofs.reported.ReportedYard.told.Goals as goal

pub tell-requires-clause-legal : goal.tell-requires-clause-legal
tell-requires-clause-legal g c =
    legal_at _ _ _ c.self.invariant.0 c.live_in_force-table.ensures.given
    (c.positions-state.ensures ∙ ap (λ (y : Yard). y.positions) c.yard.ensures.yard)

pub tell-requires-clause-reports : goal.tell-requires-clause-reports
tell-requires-clause-reports g c =
    reports_at _ _ c.self.invariant.0 (c.positions-state.ensures ∙ ap (λ (y : Yard). y.positions) c.yard.ensures.yard)

pub tell-requires-clause-train : goal.tell-requires-clause-train
tell-requires-clause-train g c =
    train_at _ _ _ c.self.invariant.0 c.live_in_force-table.ensures.given
    (subst (λ (v : Reported). c.args.train < length v.there) (sym c.self.view_is) c.requires)

pub returns-clause-told : goal.returns-clause-told
returns-clause-told g c =
    let u : Reported =
    record { run = c.self.inside.run; there = c.self.inside.there; reports = c.self.inside.reports } in
    let positions = c.positions-state.ensures ∙ ap (λ (y : Yard). y.positions) c.yard.ensures.yard in
    subst (λ (v : Reported). TellsTrain v c.args.train c.tell.result) c.self.view_is
    (tells_at u _ _ c.args.train c.tell.result c.live_in_force-table.ensures.given positions c.tell.ensures.told)
