-- How the words of a core lie in the shared table.
use Rattle.std.specs.Prelude.{ℕ, List, [], ◌∷◌}

-- Each word has seven others after it that are 0 and that nobody uses. So no two words are in one line of the processor's memory, and
-- passes at different words don't wait for one another.
abbrev pub spread : List ℕ → List ℕ
spread [] = []
spread (n ∷ later) = n ∷ 0 ∷ 0 ∷ 0 ∷ 0 ∷ 0 ∷ 0 ∷ 0 ∷ spread later
