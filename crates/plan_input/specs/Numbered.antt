-- Names by a word and a number, for sections that have none of their own.
use Rattle.std.specs.Prelude.{ℕ, ◌+◌, ◌-◌, List, [], ◌++◌, codes, decimal, length, map, slice_index_or}
use Rattle.document_json.specs.Doc.{Doc, table_at}
use Rattle.rail_model.specs.Checks.{below}
use Rattle.plan_input.specs.declared.numbered.Further.{Further}
use Rattle.plan_input.specs.declared.numbered.Further.TheVariants.{Crossing, Added}

-- what a section is called by a word and its number, counted from 1: by the word `added`, `added 1`, `added 2`, ..
abbrev pub numbered_name : List ℕ → ℕ → List ℕ
numbered_name word k = word ++ (codes " " ++ decimal (k + 1))

-- the names of so many sections
abbrev pub numbered : List ℕ → ℕ → List (List ℕ)
numbered word count = map (numbered_name word) (below count)

-- names, and those of the sections beside them, of which there are this many in all: crossings are before them, and what was added is
-- behind
abbrev pub with_numbered : Further → List (List ℕ) → ℕ → List (List ℕ)
with_numbered Crossing names count = numbered (codes "crossing") (count - length names) ++ names
with_numbered Added names count = names ++ numbered (codes "added") (count - length names)

-- the names of the sections of table t, of the names that those of each table have
abbrev pub names_at : Further → Doc → List (List (List ℕ)) → ℕ → List (List ℕ)
names_at further D names t = with_numbered further (slice_index_or names t []) (length (table_at D t).sections)

-- those of all tables
abbrev pub all_names : Further → Doc → List (List (List ℕ)) → List (List (List ℕ))
all_names further D names = map (names_at further D names) (below (length D.tables))
