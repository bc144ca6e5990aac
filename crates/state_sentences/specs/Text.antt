-- The text on a legal state: a sentence for each train, the circle, the knot, and whether the state is stuck.
use Rattle.std.specs.Prelude.{◌==◌, ◌++◌, ℕ, List, length, codes, decimal, if◌then◌else◌, String}
use Rattle.std.specs.declared.alloc.Global.{Global}
use Rattle.rail_model.specs.Names.{Names}
use Rattle.rail_model.specs.Table.{Table}
use Rattle.state_sentences.specs.Explanation.{trains_words, circle_words}
use Rattle.state_sentences.specs.KnotWords.{knot_words, has_arrived}
use Rattle.state_sentences.specs.declared.closing.Verdict.{Verdict}
use Rattle.state_sentences.specs.declared.closing.Verdict.TheVariants.{Arrived, Going, Stuck}

-- that a section keeps a stuck state out
abbrev pub remedy_words : Table → List ℕ
remedy_words T =
    if length T.connections == 0
    then codes "A section keeps it out: write one that these places overfill, or let planner protect make one.\n"
    else codes "A section keeps it out: write one that these places overfill. ats repair refuses a table with connections.\n"

-- what keeps a stuck state out: a section, if no train of its knot has arrived
abbrev pub cure_words : Table → List ℕ → List ℕ → List ℕ
cure_words T p knot =
    if has_arrived T p knot
    then codes "A train of the knot has arrived where it is in the way: it has to come later, or to end elsewhere.\n"
    else remedy_words T

-- whether the state is stuck, and what keeps it out
abbrev pub verdict_words : Table → List ℕ → ℕ → List ℕ → Verdict → List ℕ
verdict_words T p t knot Arrived = codes "All trains have arrived.\n"
verdict_words T p t knot Going = codes "The state isn't stuck: a train may move.\n"
verdict_words T p t knot Stuck =
    codes "No train can move, so the state is stuck. The sections of table " ++ decimal t
    ++ codes " allow it, whether or not trains can come to it from the start.\n" ++ cure_words T p knot

-- the whole text
abbrev pub explanation : Names → List (String Global) → Table → List ℕ → ℕ → List ℕ → List ℕ → Verdict → List ℕ
explanation N S T p t circle knot verdict =
    trains_words N S T p ++ circle_words N T p circle ++ knot_words N S T p circle knot ++ verdict_words T p t knot verdict
