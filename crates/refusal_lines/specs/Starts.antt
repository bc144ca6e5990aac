-- What is printed of a start that isn't legal.
use Rattle.std.specs.Prelude.{ℕ, List, ◌++◌, codes, decimal}
use Rattle.legal_state.specs.declared.judges.Illegal.{Illegal}
use Rattle.legal_state.specs.declared.judges.Illegal.TheVariants as start

-- The causes why a state isn't legal.
abbrev pub illegal_words : Illegal → List ℕ
illegal_words (start.Length n) = codes "31 Length count=" ++ decimal n
illegal_words (start.Range i) = codes "32 Range train=" ++ decimal i
illegal_words (start.Clash i k p) = codes "33 Clash first=" ++ decimal i ++ codes " second=" ++ decimal k ++ codes " point=" ++ decimal p
illegal_words (start.Over s n l) = codes "34 Over section=" ++ decimal s ++ codes " count=" ++ decimal n ++ codes " limit=" ++ decimal l

-- A start that isn't legal, with the cause.
abbrev pub start_words : Illegal → List ℕ
start_words cause = codes "112 StartIllegal " ++ illegal_words cause
