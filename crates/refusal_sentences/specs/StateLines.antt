-- Lines of ats that name a state of a table.
use Rattle.std.specs.Prelude.{◌≡◌, ◌⊎◌, ◌++◌, ℕ, List, codes}
use Rattle.refusal_lines.specs.Makers.{stuck_words, rounds_words}

-- The words name positions of a table: it is stuck there, or the rounds were spent before that state.
abbrev pub NamesState : List ℕ → ℕ → List ℕ → Type 0
NamesState words t p = (words ≡ stuck_words t p) ⊎ ((n : ℕ) × (words ≡ rounds_words t n p))

-- The line has these words, after the name of the program or without it.
abbrev pub IsLineOf : List ℕ → List ℕ → Type 0
IsLineOf line words = (line ≡ words) ⊎ (line ≡ codes "ats: " ++ words)
