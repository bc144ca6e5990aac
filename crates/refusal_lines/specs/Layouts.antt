-- What is printed of a layout and of trains that are refused.
use Rattle.std.specs.Prelude.{ℕ, List, ◌++◌, codes, decimal}
use Rattle.track_layout.specs.Counted.{name_of}
use Rattle.track_layout.specs.declared.refused.LayoutRefused.{LayoutRefused}
use Rattle.track_layout.specs.declared.refused.LayoutRefused.TheVariants as layout
use Rattle.mission_table.specs.declared.refused.TrainRefused.{TrainRefused}
use Rattle.mission_table.specs.declared.refused.TrainRefused.TheVariants as trains
use Rattle.refusal_lines.specs.Fields.{no_memory}

-- The refusals of layouts.
abbrev pub layout_words : LayoutRefused → List ℕ
layout_words (layout.TooMany w n) = codes "1 TooMany what=" ++ name_of w ++ codes " count=" ++ decimal n
layout_words (layout.DoubleName p q) = codes "2 DoubleName first=" ++ decimal p ++ codes " second=" ++ decimal q
layout_words (layout.UnknownPoint k) = codes "3 UnknownPoint link=" ++ decimal k
layout_words (layout.SelfLink k) = codes "4 SelfLink link=" ++ decimal k
layout_words (layout.ZoneRange p) = codes "5 ZoneRange point=" ++ decimal p
layout_words (layout.ZoneEmpty z) = codes "6 ZoneEmpty zone=" ++ decimal z
layout_words (layout.Name p) = codes "7 Name point=" ++ decimal p
layout_words layout.NoZone = codes "8 NoZone"
layout_words layout.Memory = no_memory

-- The refusals of trains.
abbrev pub trains_words : TrainRefused → List ℕ
trains_words (trains.TooMany n) = codes "11 TooMany count=" ++ decimal n
trains_words (trains.DoubleName i k) = codes "15 DoubleName first=" ++ decimal i ++ codes " second=" ++ decimal k
trains_words (trains.Name i) = codes "17 Name train=" ++ decimal i
trains_words trains.Memory = no_memory
