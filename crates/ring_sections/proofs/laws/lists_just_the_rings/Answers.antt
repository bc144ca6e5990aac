use Rattle.ring_sections.proofs.RingLists.{lists_rings}
use Rattle.ring_sections.proofs.laws.lists_just_the_rings.Goals as goal

pub returns : goal.returns
returns c = lists_rings
