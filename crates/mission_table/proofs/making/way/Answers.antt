use Rattle.std.proofs.Common.{◌≡◌, ◌∙◌, ℕ, sym, ap, inr, arith, length, take, string_bytes, Ok, None, ◌++◌, ◌∷◌, []}
use Rattle.std.proofs.lemmas.Grind.{common_steps}
use Rattle.std.proofs.lemmas.List.{length-map}
use Rattle.rail_model.specs.Turns.{unless, first_below}
use Rattle.rail_model.proofs.Firsts.{Answers-err}
use Rattle.mission_table.specs.declared.refused.MissionRefused.TheVariants.{Memory}
use Rattle.mission_table.specs.Seen.{names_seen}
use Rattle.mission_table.specs.Ways.{way_value, way_refusal, step_refusal, point_before, name_at}
use Rattle.rail_model.specs.Layout.{point_names}
use Rattle.track_layout.specs.Making.{number_in}
use Rattle.mission_table.proofs.Steps.{name_there, way_stops, way_goes, reached, before_next, way_next}
use Rattle.mission_table.proofs.making.way.Goals.{After-step}
use Rattle.mission_table.proofs.making.way.Goals as goal

-- the name that is read is the one at the place
read : (c : After-step) → c.deref.result.now ≡ name_at (names_seen c.args.names.now) c.loop-place.place
read c = c.deref.ensures ∙ name_there c.args.names.now c.loop-place.place c.index-names-place.result c.loop-place-test.true c.index-names-place.is

pub returns-in_err-point : goal.returns-in_err-point
returns-in_err-point c =
    let L = c.args.tracks.now in
    let names = names_seen c.args.names.now in
    let e = c.in_err-point.field-0.0 in
    let size : length names ≡ length c.args.names.now = length-map c.args.names.now string_bytes in
    let name = read (goal.at.returns-in_err-point c).After-step in
    let stops = way_stops L c.args.train names c.loop-place.place c.loop-place.before c.deref.result.now e (omega arith)
    c.loop-place.invariant.1 name c.in_err-point.ensures c.loop-place.invariant.2 in
    Answers-err Memory (λ points. points.items) c.from_residual.result (unless (way_refusal L c.args.train names) (way_value L names)) e
    c.from_residual.ensures.1 (inr (ap (λ r. unless r (way_value L names)) stops))

pub loop-place-preserved : goal.loop-place-preserved
loop-place-preserved c =
    let L = c.args.tracks.now in
    let names = names_seen c.args.names.now in
    let q = c.in_ok-point.point in
    let name = read (goal.at.loop-place-preserved c).After-step in
    let point = reached L c.args.train c.loop-place.place c.loop-place.before c.deref.result.now q c.in_ok-point.ensures in
    let there = ap (number_in (point_names L)) (sym c.deref.ensures) ∙ point in (
      c.in_ok-push.ensures.items ∙ ap (λ ps. ps ++ q ∷ []) c.loop-place.invariant.0
          ∙ way_next L c.args.names.now c.loop-place.place c.index-names-place.result q c.loop-place-test.true c.index-names-place.is there,
      before_next L names c.loop-place.place c.deref.result.now q name point,
      way_goes L c.args.train names c.loop-place.place c.loop-place.before c.deref.result.now q c.loop-place.invariant.1 name
          c.in_ok-point.ensures c.loop-place.invariant.2,
    )

pub returns : goal.returns
returns c =
    let L = c.args.tracks.now in
    let names = names_seen c.args.names.now in
    let size : length names ≡ length c.args.names.now = length-map c.args.names.now string_bytes in
    let all : c.loop-place.place ≡ length c.args.names.now = omega arith in
    let whole : take c.loop-place.place c.args.names.now ≡ c.args.names.now = grind (arith, common_steps) in
    let passes = λ (k : ℕ). step_refusal L c.args.train k (point_before L names k) (name_at names k) in
    let none : way_refusal L c.args.train names ≡ None = ap (λ n. first_below n passes) (size ∙ sym all) ∙ c.loop-place.invariant.2 in
    ap (λ r. unless r (way_value L names)) none ∙ ap Ok (sym (c.loop-place.invariant.0 ∙ ap (λ ns. way_value L (names_seen ns)) whole))
