-- What the words of a line mean, as the readers of words take them.
use Rattle.std.specs.Prelude.{◌≡◌, ℕ, ◌==◌, List, [], ◌∷◌, Bool, length, codes, take, drop, Option, Some, None, option_and_then, option_map, if◌then◌else◌}
use Rattle.std.specs.List.{slice_split, position}
use Rattle.std.specs.Str.{bytes_eq}
use Rattle.decimal_number.specs.Decimal.{number_of}
use Rattle.rail_model.specs.declared.types.Line.{Line}
use Rattle.rail_model.specs.declared.types.Line.TheVariants.{Move, Table, KeptDiffers, KeptOver}
use Rattle.rail_model.specs.Names.{Names}

-- the second reader takes what the first one read
infixl 10 ◌>>=◌
abbrev pub ◌>>=◌ : {A B : Type 0} → Option A → (A → Option B) → Option B
o >>= f = option_and_then f o

-- the byte between two words
abbrev pub is_space : ℕ → Bool
is_space b = b == 32

-- the words between the spaces
unfoldable pub word_list : List ℕ → List (List ℕ)
word_list bytes = slice_split is_space bytes

-- There are two words and maybe more.
pub record HasMore (bytes : List ℕ) : Type 0 where
  pub first : List ℕ
  pub second : List ℕ
  pub later : List (List ℕ)
  pub words : word_list bytes ≡ first ∷ second ∷ later

-- the place of a name in a list
unfoldable pub called : List (List ℕ) → List ℕ → Option ℕ
called names word = position (λ name. bytes_eq name word) names

-- where a move leads: a point, or out of the layout
unfoldable pub target_of : Names → List ℕ → Option (Option ℕ)
target_of N word = if bytes_eq word (codes "-") then Some None else option_map Some (called N.points word)

-- the words after `move`
unfoldable pub move_of : Names → List (List ℕ) → Option Line
move_of N (train ∷ from ∷ to ∷ []) = do
  i ← called N.trains train
  p ← called N.points from
  q ← target_of N to
  Some (Move i p q)
move_of N _ = None

-- the words after `table`
unfoldable pub table_of : List (List ℕ) → Option Line
table_of (table ∷ []) = do
  t ← number_of table
  Some (Table t)
table_of _ = None

-- the words after `differs`
unfoldable pub differs_of : Names → ℕ → List (List ℕ) → Option Line
differs_of N t (train ∷ place ∷ []) = do
  i ← called N.trains train
  k ← number_of place
  Some (KeptDiffers t i k)
differs_of N t _ = None

-- the words after `over`
unfoldable pub over_of : ℕ → List (List ℕ) → Option Line
over_of t (section ∷ count ∷ []) = do
  s ← number_of section
  n ← number_of count
  Some (KeptOver t s n)
over_of t _ = None

-- the words after `kept`
unfoldable pub kept_of : Names → List (List ℕ) → Option Line
kept_of N (table ∷ kind ∷ later) = do
  t ← number_of table
  if bytes_eq kind (codes "differs") then differs_of N t later else (if bytes_eq kind (codes "over") then over_of t later else None)
kept_of N _ = None

-- the words after a line's number
unfoldable pub line_of : Names → List (List ℕ) → Option Line
line_of N (kind ∷ later) =
    if bytes_eq kind (codes "move") then move_of N later
    else (if bytes_eq kind (codes "table") then table_of later
    else (if bytes_eq kind (codes "kept") then kept_of N later else None))
line_of N [] = None

-- the words of a line
unfoldable pub numbered_of : Names → List (List ℕ) → Option (ℕ × Line)
numbered_of N (number ∷ later) = do
  n ← number_of number
  l ← line_of N later
  Some (n, l)
numbered_of N [] = None

-- the number after a name such as `moves=`
unfoldable pub field_of : List ℕ → List ℕ → Option ℕ
field_of name word = if bytes_eq (take (length name) word) name then number_of (drop (length name) word) else None

-- the words of an end line: its two counts
unfoldable pub end_of : List (List ℕ) → Option (ℕ × ℕ)
end_of (kind ∷ moves ∷ tables ∷ []) =
    if bytes_eq kind (codes "end")
    then (do
      m ← field_of (codes "moves=") moves
      t ← field_of (codes "tables=") tables
      Some (m, t))
    else None
end_of _ = None
