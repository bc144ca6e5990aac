-- The arrows of trains.
use Rattle.std.specs.Prelude.{◌≡◌, ℕ, ◌==◌, ℤ, pos, ◌+ℤ◌, ◌-ℤ◌, ◌*ℤ◌, int_div, List, [], ◌∷◌, codes, Option, Some, None, if◌then◌else◌}
use Rattle.std.specs.Int.{w64, saturate_signed}
use Rattle.svg_text.specs.Tree.{Shape}
use Rattle.svg_text.specs.Shapes.{polygon_of}
use Rattle.svg_text.specs.declared.shapes.Spot.{Spot}
use Rattle.rail_model.specs.Table.{Table, last, point, place}
use Rattle.layout_picture.specs.declared.arrows.Heading.{Heading}
use Rattle.layout_picture.specs.declared.arrows.Corner.{Corner}
use Rattle.layout_picture.specs.declared.arrows.Outline.{Outline}
use Rattle.layout_picture.specs.declared.arrows.TheConstants.{ARROW, SQUARE}
use Rattle.layout_frame.specs.Spots.{painted, shifted, spot_at}
use Rattle.layout_picture.specs.Red.{IsColour}

-- a product that stays within 64 bits
abbrev pub times : ℤ → ℤ → ℤ
times a b = saturate_signed w64 (a *ℤ b)

-- a number of thousandths
abbrev pub thousandths : ℤ → ℤ
thousandths z = int_div (saturate_signed w64 z) (pos 1000)

-- this many sixths of a size
abbrev pub sixths : ℤ → ℤ → ℤ
sixths size number = int_div (times size number) (pos 6)

-- the spot so far ahead of another one, and so far aside, for who heads there
abbrev pub turned : Heading → Spot → ℤ → ℤ → Spot
turned h at ahead aside =
    shifted at
    (thousandths (times h.right ahead -ℤ times h.down aside))
    (thousandths (times h.down ahead +ℤ times h.right aside))

-- the corner of a mark round a spot
abbrev pub corner_of : Heading → Spot → ℤ → Corner → Spot
corner_of h at size c = turned h at (sixths size c.ahead) (sixths size c.aside)

-- a mark of this size round a spot, turned to where it heads
abbrev pub mark_of : Heading → Spot → ℤ → Outline → Shape
mark_of h at size o =
    polygon_of (corner_of h at size o.first ∷ corner_of h at size o.second ∷ corner_of h at size o.third ∷ corner_of h at size o.fourth ∷ [])

-- a square for a train that has arrived, and an arrow for any other
abbrev pub outline_of : Table → List ℕ → ℕ → Outline
outline_of T p i = if place p i == last T i then SQUARE else ARROW

-- The shapes are one mark round a spot, of a train: an arrow or a square, in the colour of the train.
pub record IsMark (T : Table) (p knot : List ℕ) (i : ℕ) (at : Spot) (shapes : List Shape) : Type 0 where
  pub heading : Heading
  pub size : ℤ
  pub colour : List ℕ
  pub is_colour : IsColour T p knot i colour
  pub mark : shapes ≡ painted (mark_of heading at size (outline_of T p i)) (codes "fill") colour ∷ []

-- The shapes are a mark round the spot of a point; or none, where there is no point.
abbrev pub IsMarkAt : Table → List ℕ → List ℕ → List Spot → ℕ → Option ℕ → List Shape → Type 0
IsMarkAt T p knot spots i (Some q) shapes = IsMark T p knot i (spot_at spots q) shapes
IsMarkAt T p knot spots i None shapes = shapes ≡ []

-- The shapes are the arrow of train i at its point; or none, if it has left the layout.
abbrev pub IsArrow : Table → List ℕ → List ℕ → List Spot → ℕ → List Shape → Type 0
IsArrow T p knot spots i shapes = IsMarkAt T p knot spots i (point T i (place p i)) shapes
