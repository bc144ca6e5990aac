-- What is printed of a table's sections and connections that are refused.
use Rattle.std.specs.Prelude.{ℕ, ℤ, List, ◌++◌, codes, decimal}
use Rattle.std.specs.Fmt.{signed_decimal}
use Rattle.section_marks.specs.declared.refused.MarkRefused.{MarkRefused}
use Rattle.section_marks.specs.declared.refused.MarkRefused.TheVariants as marks

-- A change or a share, with its sign.
abbrev pub value_words : ℤ → List ℕ
value_words v = codes " value=" ++ signed_decimal v

-- A train's place in a section, after a label.
abbrev pub place_words : List ℕ → ℕ → ℕ → ℕ → ℕ → List ℕ
place_words label t s i k = label ++ decimal t ++ codes " section=" ++ decimal s ++ codes " train=" ++ decimal i ++ codes " place=" ++ decimal k

-- A change or a share that no train may have there, after the label.
abbrev pub change_words : List ℕ → ℕ → ℕ → ℕ → ℕ → ℤ → List ℕ
change_words label t s i k v = place_words label t s i k ++ value_words v

-- The refusals of sections and connections.
abbrev pub marks_words : ℕ → MarkRefused → List ℕ
marks_words t (marks.TooMany n) = codes "21 TooMany table=" ++ decimal t ++ codes " count=" ++ decimal n
marks_words t (marks.Count s i) = codes "22 Count table=" ++ decimal t ++ codes " section=" ++ decimal s ++ codes " train=" ++ decimal i
marks_words t (marks.Step s i k v) = change_words (codes "23 Step table=") t s i k v
marks_words t (marks.Share s i k v) = change_words (codes "24 Share table=") t s i k v
marks_words t (marks.Limit s v) = codes "25 Limit table=" ++ decimal t ++ codes " section=" ++ decimal s ++ codes " value=" ++ decimal v
marks_words t (marks.Connections n) = codes "26 Connections table=" ++ decimal t ++ codes " count=" ++ decimal n
marks_words t (marks.ConnectionTrain c) = codes "27 ConnectionTrain table=" ++ decimal t ++ codes " connection=" ++ decimal c
marks_words t (marks.ConnectionPlace c) = codes "28 ConnectionPlace table=" ++ decimal t ++ codes " connection=" ++ decimal c
