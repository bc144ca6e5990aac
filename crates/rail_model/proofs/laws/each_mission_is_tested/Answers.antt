use Rattle.rail_model.proofs.MissionTests.{Decides-mission, Decides-missions}
use Rattle.rail_model.proofs.laws.each_mission_is_tested.Goals as goal

pub returns-clause-one : goal.returns-clause-one
returns-clause-one c = Decides-mission

pub returns-clause-all : goal.returns-clause-all
returns-clause-all c = Decides-missions
