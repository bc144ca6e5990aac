use Rattle.std.proofs.Common.{◌≡◌, ◌∙◌, refl, ap, sym, subst, position, bytes_eq}
use Rattle.std.specs.Option.{IsNone}
use Rattle.rail_model.specs.Layout.{Point, point_names}
use Rattle.rail_model.proofs.Places.{position-map}
use Rattle.track_layout.proofs.Called.{called_there, called_among, called_nowhere}
use Rattle.track_layout.proofs.lookup.number_of.Goals.{After-place_of}
use Rattle.track_layout.proofs.lookup.number_of.Goals as goal

-- the place that is looked for is that of the name
looked_for : (c : After-place_of) → c.place_of.result ≡ position (bytes_eq c.args.name.now) (point_names c.args.layout.now)
looked_for c =
    let test = bytes_eq c.args.name.now in
    c.place_of.ensures ∙ ap (position (λ (p : Point). test p.name)) c.points.ensures.points
    ∙ sym (position-map test (λ (p : Point). p.name) c.args.layout.now.points)

pub returns-in_err-point-clause-first : goal.returns-in_err-point-clause-first
returns-in_err-point-clause-first c =
    c.from_residual.ensures ∙ sym c.in_err-point.was ∙ looked_for (goal.at.returns-in_err-point-clause-first c).After-place_of

pub returns-clause-first : goal.returns-clause-first
returns-clause-first c = sym c.in_ok-point.was ∙ looked_for (goal.at.returns-clause-first c).After-place_of

pub returns-clause-found : goal.returns-clause-found
returns-clause-found c = called_there (point_names c.args.layout.now) c.args.name.now c.in_ok-point.point (returns-clause-first c)

pub returns-in_err-point-clause-none : goal.returns-in_err-point-clause-none
returns-in_err-point-clause-none c =
    let lost = sym c.in_err-point.was ∙ looked_for (goal.at.returns-in_err-point-clause-none c).After-place_of in
    (λ e. called_nowhere (point_names c.args.layout.now) c.args.name.now lost, λ never. subst IsNone (sym c.from_residual.ensures) refl)

pub returns-clause-none : goal.returns-clause-none
returns-clause-none c =
    let there = called_among (point_names c.args.layout.now) c.args.name.now c.in_ok-point.point (returns-clause-found c) in
    (λ e. absurd cc, λ never. absurd (never there))
