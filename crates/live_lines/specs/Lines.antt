-- Lines of the output.
use Rattle.std.specs.Prelude.{ℕ, List, [], ◌∷◌, ◌++◌, codes, decimal, Bool, if◌then◌else◌}

-- a tag and the blank after it; nothing where there is no tag
abbrev pub tag_words : List ℕ → List ℕ
tag_words [] = []
tag_words (b ∷ later) = b ∷ later ++ codes " "

-- a line: its tag, where it has one, and its words
abbrev pub line_of : List ℕ → List ℕ → List ℕ
line_of tag words = tag_words tag ++ words ++ codes "\n"

-- the last line: the end line of a journal that is whole, or how far it has come
abbrev pub close_words : Bool → ℕ → ℕ → List ℕ
close_words whole n t =
    (if whole then codes "end" else codes "suspend") ++ codes " moves=" ++ decimal n ++ codes " tables=" ++ decimal t

abbrev pub close_text : Bool → ℕ → ℕ → List ℕ
close_text whole n t = close_words whole n t ++ codes "\n"
