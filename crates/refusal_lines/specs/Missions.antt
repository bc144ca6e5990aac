-- What is printed of a table's missions that are refused.
use Rattle.std.specs.Prelude.{ℕ, List, ◌++◌, codes, decimal}
use Rattle.mission_table.specs.declared.refused.MissionRefused.{MissionRefused}
use Rattle.mission_table.specs.declared.refused.MissionRefused.TheVariants as missions
use Rattle.refusal_lines.specs.Fields.{no_memory}

-- The refusals of missions.
abbrev pub missions_words : ℕ → MissionRefused → List ℕ
missions_words t (missions.Length i n) = codes "12 Length table=" ++ decimal t ++ codes " train=" ++ decimal i ++ codes " count=" ++ decimal n
missions_words t (missions.UnknownPoint i k) = codes "13 UnknownPoint table=" ++ decimal t ++ codes " train=" ++ decimal i ++ codes " place=" ++ decimal k
missions_words t (missions.NotLinked i k) = codes "14 NotLinked table=" ++ decimal t ++ codes " train=" ++ decimal i ++ codes " place=" ++ decimal k
missions_words t (missions.Lists n) = codes "16 Lists table=" ++ decimal t ++ codes " count=" ++ decimal n
missions_words t (missions.Exits n) = codes "18 Exits table=" ++ decimal t ++ codes " count=" ++ decimal n
missions_words t missions.Memory = no_memory
