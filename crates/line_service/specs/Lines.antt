-- The lines of bytes that come one after the other.
use Rattle.std.specs.Prelude.{ℕ, ◌-◌, ◌==◌, List, [], ◌∷◌, ◌++◌, length, take, slice_index, if◌then◌else◌}
use Rattle.std.specs.List.{fold}

-- the byte that ends a line
abbrev pub newline : ℕ
newline = 10

-- a line without the carriage return at its end
abbrev pub without_return : List ℕ → List ℕ
without_return line = if slice_index line (length line - 1) == 13 then take (length line - 1) line else line

-- a line as a server is handed it: without a carriage return at its end, and of more than 256 bytes the first 257
abbrev pub handed : List ℕ → List ℕ
handed line = take 257 (without_return line)

-- the bytes of a line that are kept until it ends
abbrev pub kept : List ℕ → List ℕ
kept line = take 258 line

-- What was heard: the lines that are complete, as a server is handed them, and what is kept of the line that isn't.
pub record Heard : Type 0 where
  pub lines : List (List ℕ)
  pub begun : List ℕ

-- A newline ends the line that was begun. Any other byte goes on with it.
abbrev pub after_byte : Heard → ℕ → Heard
after_byte heard byte =
    if byte == newline
    then record { lines = heard.lines ++ (handed heard.begun ∷ []); begun = [] }
    else record { lines = heard.lines; begun = kept (heard.begun ++ (byte ∷ [])) }

-- what was heard after further bytes
abbrev pub after_bytes : Heard → List ℕ → Heard
after_bytes heard bytes = fold after_byte heard bytes

-- what was heard after these bytes, where this was kept of a line that isn't complete
abbrev pub heard_from : List ℕ → List ℕ → Heard
heard_from begun bytes = after_bytes (record { lines = []; begun = begun }) bytes

-- what was heard after these bytes
abbrev pub heard_of : List ℕ → Heard
heard_of bytes = heard_from [] bytes
