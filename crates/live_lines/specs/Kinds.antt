-- Which lines are lines of the journal.
use Rattle.std.specs.Prelude.{◌≡◌, ℕ, ◌+◌, List, [], ◌∷◌, ◌++◌, Bool, false, codes, decimal, map}
use Rattle.std.specs.Char.{is_ascii_digit}
use Rattle.std.specs.List.{concat, filter}
use Rattle.rail_model.specs.declared.types.Line.{Line}
use Rattle.rail_model.specs.Journal.{words as line_words}
use Rattle.rail_model.specs.Names.{Names}
use Rattle.live_lines.specs.Lines.{line_of}
use Rattle.live_lines.specs.declared.calls.Heard.{Heard}
use Rattle.live_lines.specs.declared.calls.Heard.TheVariants.{Empty, Asked, Refused}

-- whether a line begins with a digit
abbrev pub begins_with_digit : List ℕ → Bool
begins_with_digit [] = false
begins_with_digit (b ∷ later) = is_ascii_digit b

-- No tag, or one that begins with #.
abbrev pub IsTag : List ℕ → Type 0
IsTag [] = Unit {0}
IsTag (b ∷ later) = b ≡ 35

-- how many bytes at the front of a line are its tag
abbrev pub tag_length : Heard → ℕ
tag_length Empty = 0
tag_length (Asked n call) = n
tag_length (Refused n fault) = n

-- Behind a tag or without one, these words are no line of the journal.
abbrev pub IsNoJournalLine : List ℕ → Type 0
IsNoJournalLine words = (tag : List ℕ) → IsTag tag → begins_with_digit (line_of tag words) ≡ false

-- a line with its newline
abbrev pub ended : List ℕ → List ℕ
ended line = line ++ codes "\n"

-- the lines of a journal after the first n, each with its number
abbrev pub numbered : Names → ℕ → List Line → List (List ℕ)
numbered N n [] = []
numbered N n (l ∷ later) = (decimal (n + 1) ++ line_words N l) ∷ numbered N (n + 1) later

-- The text is lines, of which those that begin with a digit are these lines of the journal, after the first n.
pub record TellsLines (N : Names) (n : ℕ) (lines : List Line) (text : List ℕ) : Type 0 where
  pub texts : List (List ℕ)
  pub joined : text ≡ concat (map ended texts)
  pub journal : filter begins_with_digit texts ≡ numbered N n lines
