-- The words of the answers on tables.
use Rattle.std.specs.Prelude.{ℕ, ◌<◌, List, ◌++◌, length, codes, decimal, Bool, if◌then◌else◌}
use Rattle.rail_model.specs.Names.{Names, train_name}
use Rattle.live_lines.specs.declared.tables.TableLine.{TableLine}
use Rattle.live_lines.specs.declared.tables.TableLine.TheVariants.{Table, Kept}
use Rattle.live_lines.specs.declared.tables.TableAnswer.{TableAnswer}
use Rattle.live_lines.specs.declared.tables.TableAnswer.TheVariants.{Tried, Again, Early, NoMore, Fits, Differs, Over}

-- the line that answered a table
abbrev pub tried_words : TableLine → List ℕ
tried_words (Table t n) = codes "table " ++ decimal t ++ codes " line=" ++ decimal n
tried_words (Kept t n) = codes "kept " ++ decimal t ++ codes " line=" ++ decimal n

-- whether a table is due
abbrev pub due_word : Bool → List ℕ
due_word due = if due then codes "due" else codes "early"

-- the next table, and whether it is due
abbrev pub next_words : ℕ → Bool → List ℕ
next_words t due = decimal t ++ codes " " ++ due_word due

-- the answers to `table` and `fits`
abbrev pub table_words : Names → TableAnswer → List ℕ
table_words N (Tried answer) = tried_words answer
table_words N (Again answer) = codes "again " ++ tried_words answer
table_words N (Early t n after) =
    codes "early " ++ decimal t ++ codes " moves=" ++ decimal n ++ codes " after=" ++ decimal after
table_words N NoMore = codes "nomore"
table_words N (Fits t due) = codes "fits " ++ next_words t due
table_words N (Differs t due i k) =
    codes "differs " ++ next_words t due ++ codes " train=" ++ train_name N i ++ codes " place=" ++ decimal k
table_words N (Over t due s n) =
    codes "over " ++ next_words t due ++ codes " section=" ++ decimal s ++ codes " count=" ++ decimal n

-- The train of an answer has a name.
abbrev pub IsNamedTable : Names → TableAnswer → Type 0
IsNamedTable N (Differs t due i k) = i < length N.trains
IsNamedTable N answer = Unit {0}
