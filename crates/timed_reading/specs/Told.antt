-- The text of timed lines, as `ats sim` writes it.
use Rattle.std.specs.Prelude.{◌≡◌, ℕ, ◌-◌, ◌<◌, List, [], ◌∷◌, ◌++◌, codes, count_by, decimal, length, map, Some, None, slice_get}
use Rattle.rail_model.specs.declared.types.Line.{Line}
use Rattle.rail_model.specs.Journal.{is_move, is_table, words}
use Rattle.rail_model.specs.Names.{Names}
use Rattle.move_journal.specs.Printable.{IsPrintable, ArePrintable}
use Rattle.timed_reading.specs.declared.ticks.Timed.{Timed}

-- the line without its tick
abbrev pub line_of : Timed → Line
line_of t = t.line

-- a line with its tick before it
abbrev pub ticked : Names → Timed → List ℕ
ticked N t = decimal t.tick ++ words N t.line

-- all lines, each with its tick
abbrev pub ticked_text : Names → List Timed → List ℕ
ticked_text N [] = []
ticked_text N (t ∷ later) = ticked N t ++ codes "\n" ++ ticked_text N later

-- how many of the lines are moves
abbrev pub moves_in : List Timed → ℕ
moves_in lines = count_by (λ t. is_move t.line) lines

-- how many of the lines are tables that took over
abbrev pub tables_in : List Timed → ℕ
tables_in lines = count_by (λ t. is_table t.line) lines

-- the tick of the last line, or 0
abbrev pub last_tick : List Timed → ℕ
last_tick lines = elim (slice_get lines (length lines - 1)) [ None ↦ 0 | Some t ↦ t.tick ]

-- the end line: the two counts, and the last tick
abbrev pub last_text : List Timed → List ℕ
last_text lines =
    codes "end moves=" ++ decimal (moves_in lines) ++ codes " tables=" ++ decimal (tables_in lines)
    ++ codes " last=" ++ decimal (last_tick lines) ++ codes "\n"

-- the whole text
abbrev pub timed_text : Names → List Timed → List ℕ
timed_text N lines = ticked_text N lines ++ last_text lines

-- The bytes are a line with its tick.
pub record IsTicked (N : Names) (bytes : List ℕ) (t : Timed) : Type 0 where
  pub printable : IsPrintable N t.line
  pub text : bytes ≡ ticked N t

-- The bytes are a line without its tick, from the space after that on.
pub record IsLineAfterTick (N : Names) (bytes : List ℕ) (l : Line) : Type 0 where
  pub printable : IsPrintable N l
  pub text : bytes ≡ words N l

-- One line more, whose text with its tick the bytes are, after fewer than a billion.
pub record IsOneMore (N : Names) (bytes : List ℕ) (before after : List Timed) : Type 0 where
  pub line : Timed
  pub few : length before < 1000000000
  pub is : IsTicked N bytes line
  pub added : after ≡ before ++ line ∷ []

-- The bytes are the text of the lines.
pub record IsTimedText (N : Names) (bytes : List ℕ) (lines : List Timed) : Type 0 where
  pub printable : ArePrintable N (map line_of lines)
  pub text : bytes ≡ timed_text N lines
