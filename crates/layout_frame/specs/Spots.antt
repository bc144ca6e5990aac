-- Spots in a picture, and shapes in a colour or with words.
use Rattle.std.specs.Prelude.{ℕ, ℤ, pos, ◌+ℤ◌, List, [], ◌∷◌, ◌++◌, map, slice_index_or}
use Rattle.std.specs.Int.{w64, saturate_unsigned}
use Rattle.svg_text.specs.Tree.{Shape}
use Rattle.svg_text.specs.declared.shapes.Spot.{Spot}

-- the spot of a point
abbrev pub spot_at : List Spot → ℕ → Spot
spot_at spots point = slice_index_or spots point (record { x = 0; y = 0 })

-- the spot so far to the right of another one, and so far below it
abbrev pub shifted : Spot → ℤ → ℤ → Spot
shifted at right down = record { x = saturate_unsigned w64 (pos at.x +ℤ right); y = saturate_unsigned w64 (pos at.y +ℤ down) }

-- a shape in a colour
abbrev pub painted : Shape → List ℕ → List ℕ → Shape
painted s name colour = record s { attributes = s.attributes ++ record { name = name; value = colour } ∷ [] }

-- the words of shapes, in order
abbrev pub words_of : List Shape → List (List ℕ)
words_of shapes = map (λ s. s.words) shapes
