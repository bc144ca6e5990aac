-- What the lines of refusals have in common.
use Rattle.std.specs.Prelude.{ℕ, List, [], ◌++◌, codes, decimal, fold}
use Rattle.std.specs.Borrow.{Bor}

-- Out of memory.
abbrev pub no_memory : List ℕ
no_memory = codes "202 Memory"

-- The whole line of some words.
abbrev pub line : List ℕ → List ℕ
line words = codes "ats: " ++ words ++ codes "\n"

-- Numbers, each after its label.
abbrev pub fields_words : List (Bor (List ℕ) × ℕ) → List ℕ
fields_words fields = fold (λ front field. front ++ field.0.now ++ decimal field.1) [] fields
