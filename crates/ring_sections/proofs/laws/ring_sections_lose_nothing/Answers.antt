use Rattle.ring_sections.proofs.Waiting.{forbids_only_rings, never_moves, loses_nothing}
use Rattle.ring_sections.proofs.laws.ring_sections_lose_nothing.Goals as goal

pub returns-clause-rings : goal.returns-clause-rings
returns-clause-rings c = forbids_only_rings

pub returns-clause-stay : goal.returns-clause-stay
returns-clause-stay c = never_moves

pub returns-clause-lost : goal.returns-clause-lost
returns-clause-lost c = loses_nothing
