-- The words of the one answer of each request.
use Rattle.std.specs.Prelude.{ℕ, ◌<◌, List, ◌++◌, length, codes, decimal}
use Rattle.rail_model.specs.Names.{Names, train_name}
use Rattle.live_lines.specs.Told.{trains_words, spot_words, prospect_words, AreNamed, IsNamedSpot, IsNamedProspect}
use Rattle.live_lines.specs.Tables.{table_words, IsNamedTable}
use Rattle.live_lines.specs.Session.{session_words}
use Rattle.live_lines.specs.Refusals.{refusal_words}
use Rattle.live_lines.specs.declared.told.Spot.{Spot}
use Rattle.live_lines.specs.declared.trains.TrainAnswer.{TrainAnswer}
use Rattle.live_lines.specs.declared.trains.TrainAnswer.TheVariants.{Granted, Again, Told, Dropped, There, Why}
use Rattle.live_lines.specs.declared.answers.Answer.{Answer}
use Rattle.live_lines.specs.declared.answers.Answer.TheVariants.{Train, Table, Session, Refused}

-- a grant, after its word
abbrev pub grant_words : Names → Spot → ℕ → List ℕ
grant_words N spot n = codes " " ++ spot_words N spot ++ codes " line=" ++ decimal n

-- of the trains that one waits for: how many they are, which may go on, and which haven't reported
abbrev pub why_words : Names → ℕ → List ℕ → List ℕ → List ℕ
why_words N n may away =
    codes " trains=" ++ decimal n ++ codes " may=" ++ trains_words N may ++ codes " away=" ++ trains_words N away

-- the answers to a train's own requests
abbrev pub train_words : Names → TrainAnswer → List ℕ
train_words N (Granted spot n) = codes "granted" ++ grant_words N spot n
train_words N (Again spot n) = codes "again" ++ grant_words N spot n
train_words N (Told prospect) = prospect_words N prospect
train_words N (Dropped i n) = codes "dropped " ++ train_name N i ++ codes " " ++ decimal n
train_words N (There i k) = codes "there " ++ train_name N i ++ codes " " ++ decimal k
train_words N (Why i n may away) = codes "why " ++ train_name N i ++ why_words N n may.now away.now

-- The trains and points of an answer to a train have names.
abbrev pub IsNamedAnswer : Names → TrainAnswer → Type 0
IsNamedAnswer N (Granted spot n) = IsNamedSpot N spot
IsNamedAnswer N (Again spot n) = IsNamedSpot N spot
IsNamedAnswer N (Told prospect) = IsNamedProspect N prospect
IsNamedAnswer N (Dropped i n) = i < length N.trains
IsNamedAnswer N (There i k) = i < length N.trains
IsNamedAnswer N (Why i n may away) = (i < length N.trains) × AreNamed N may.now × AreNamed N away.now

-- the answers
abbrev pub answer_words : Names → Answer → List ℕ
answer_words N (Train answer) = train_words N answer
answer_words N (Table answer) = table_words N answer
answer_words N (Session answer) = session_words answer
answer_words N (Refused refusal) = refusal_words refusal

-- The trains and points of an answer have names.
abbrev pub IsNamed : Names → Answer → Type 0
IsNamed N (Train answer) = IsNamedAnswer N answer
IsNamed N (Table answer) = IsNamedTable N answer
IsNamed N (Session answer) = Unit {0}
IsNamed N (Refused refusal) = Unit {0}
