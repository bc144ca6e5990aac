-- What is written of a difference.
use Rattle.std.specs.Prelude.{ℕ, List, ◌++◌, codes, decimal}
use Rattle.rail_model.specs.Names.{Names, train_name}
use Rattle.document_origin.specs.declared.difference.Part.{Part}
use Rattle.document_origin.specs.declared.difference.Part.TheVariants.{Route, Exit, Times, Connections, After, Section}
use Rattle.document_origin.specs.declared.difference.Difference.{Difference}
use Rattle.document_origin.specs.declared.difference.Difference.TheVariants.{Layout, Trains, Start, Tables, Table}

-- a train, by its name
abbrev pub train_words : Names → ℕ → List ℕ → List ℕ
train_words N i words = codes "train \"" ++ train_name N i ++ codes "\"" ++ words

-- what differs in a table
abbrev pub part_words : Names → Part → List ℕ
part_words N (Route i) = train_words N i (codes " has another route")
part_words N (Exit i) = train_words N i (codes " exits in one of them alone")
part_words N (Times i) = train_words N i (codes " has other times")
part_words N Connections = codes "it has other connections"
part_words N After = codes "it is due after another number of moves"
part_words N (Section s) = codes "section " ++ decimal s ++ codes " is missing or another"

-- what differs, and where
abbrev pub difference_words : Names → Difference → List ℕ
difference_words N Layout = codes "it has other points, zones or links"
difference_words N Trains = codes "it has other trains"
difference_words N Start = codes "its trains start at other places"
difference_words N Tables = codes "it has another number of tables"
difference_words N (Table t part) = codes "table " ++ decimal t ++ codes ": " ++ part_words N part
