use Rattle.rail_model.proofs.Ways.{is_mission_of, missions_on}
use Rattle.rail_model.proofs.laws.missions_of_a_layout_are_missions.Goals as goal

pub returns-clause-mission : goal.returns-clause-mission
returns-clause-mission c = is_mission_of

pub returns-clause-points : goal.returns-clause-points
returns-clause-points c = missions_on
