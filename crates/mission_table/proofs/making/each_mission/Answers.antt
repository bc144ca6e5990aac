use Rattle.std.proofs.Common.{◌≡◌, ◌⊎◌, ◌∙◌, Err, ap, sym, inl, inr, arith, length, get_or, slice_index_or, false, ◌++◌, ◌∷◌, []}
use Rattle.rail_model.specs.Turns.{unless}
use Rattle.rail_model.proofs.Firsts.{Answers-err}
use Rattle.mission_table.specs.declared.refused.MissionRefused.TheVariants.{Memory}
use Rattle.mission_table.specs.Seen.{names_seen, ways_seen}
use Rattle.mission_table.specs.Ways.{mission_value, ways_refusal, missions_value}
use Rattle.mission_table.proofs.Fleet.{list_there, fleet_stops, fleet_goes, fleet_next, mission_made}
use Rattle.mission_table.proofs.making.each_mission.Goals.{After-mission}
use Rattle.mission_table.proofs.making.each_mission.Goals as goal

-- the names that are read are the train's
read : (c : After-mission) → names_seen c.deref.result.now ≡ slice_index_or (ways_seen c.args.lists.now) c.loop-train.train []
read c =
    let there = list_there c.args.lists.now c.loop-train.train c.index-lists-train.result c.loop-train-test.true c.index-lists-train.is in
    ap names_seen c.deref.ensures.value ∙ there

pub returns-in_err-mission : goal.returns-in_err-mission
returns-in_err-mission c =
    let L = c.args.tracks.now in
    let lists = ways_seen c.args.lists.now in
    let exits = c.args.exits.now in
    let n = length c.args.lists.now in
    let names = names_seen c.deref.result.now in
    let e = c.in_err-mission.field-0.0 in
    let list = read (goal.at.returns-in_err-mission c).After-mission in
    let wanted = unless (ways_refusal L n lists exits) (missions_value L lists exits) in
    let answer = elim c.in_err-mission.ensures as (λ _. (e ≡ Memory) ⊎ (wanted ≡ Err e)) [
      | inl m ↦ inl m
      | inr d ↦
          let stops = fleet_stops L lists exits n c.loop-train.train names e c.loop-train-test.true list d c.loop-train.invariant.1 in
          inr (ap (λ r. unless r (missions_value L lists exits)) stops)
    ] in
    Answers-err Memory (λ missions. missions.items) c.from_residual.result wanted e c.from_residual.ensures.1 answer

pub loop-train-preserved : goal.loop-train-preserved
loop-train-preserved c =
    let L = c.args.tracks.now in
    let lists = ways_seen c.args.lists.now in
    let exits = c.args.exits.now in
    let i = c.loop-train.train in
    let exit = get_or exits i false in
    let names = names_seen c.deref.result.now in
    let m = mission_made L i names exit c.in_ok-mission.field-0 c.in_ok-mission.ensures in
    let items = names_seen c.index-lists-train.result.items in
    let made : c.in_ok-mission.field-0 ≡ mission_value L items exit =
    sym m ∙ ap (λ ns. mission_value L (names_seen ns) exit) c.deref.ensures.value in
    let list = read (goal.at.loop-train-preserved c).After-mission in (
      c.in_ok-push.ensures.items ∙ (λ j. c.loop-train.invariant.0 j ++ made j ∷ [])
          ∙ fleet_next L c.args.lists.now exits i c.index-lists-train.result c.loop-train-test.true (omega arith) c.index-lists-train.is,
      fleet_goes L lists exits i names c.in_ok-mission.field-0 list c.in_ok-mission.ensures c.loop-train.invariant.1,
    )
