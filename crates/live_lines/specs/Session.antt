-- The words of the answers on the session and the whole yard.
use Rattle.std.specs.Prelude.{ℕ, List, ◌++◌, codes, decimal}
use Rattle.live_lines.specs.declared.session.Counts.{Counts}
use Rattle.live_lines.specs.declared.session.SessionAnswer.{SessionAnswer}
use Rattle.live_lines.specs.declared.session.SessionAnswer.TheVariants.{Ready, State, Could, Since, Pong, Bye}

-- what a yard counts
abbrev pub counts_words : Counts → List ℕ
counts_words c =
    codes " line=" ++ decimal c.line ++ codes " moves=" ++ decimal c.moves ++ codes " table=" ++ decimal c.table
    ++ codes " tried=" ++ decimal c.tried ++ codes " of=" ++ decimal c.of ++ codes " arrived=" ++ decimal c.arrived
    ++ codes " trains=" ++ decimal c.trains

-- the answers to requests of no single train
abbrev pub session_words : SessionAnswer → List ℕ
session_words (Ready document counts) = codes "ready dispatch=1 document=" ++ document.now ++ counts_words counts
session_words (State counts) = codes "state" ++ counts_words counts
session_words (Could may wait arrived) =
    codes "could may=" ++ decimal may ++ codes " wait=" ++ decimal wait ++ codes " arrived=" ++ decimal arrived
session_words (Since n last) = codes "since " ++ decimal n ++ codes " line=" ++ decimal last
session_words (Pong n) = codes "pong line=" ++ decimal n
session_words (Bye n) = codes "bye line=" ++ decimal n
