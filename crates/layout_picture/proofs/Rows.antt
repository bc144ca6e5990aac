-- Worked rows: areas, arrows, lines and colours in a small layout.
use Rattle.std.proofs.Common.{◌≡◌, ◌∷◌, [], ℕ, List, true, false, inr, refl}
use Rattle.std.specs.Prelude.{pos, codes}
use Rattle.std.specs.Fmt.{digits}
use Rattle.svg_text.specs.Tree.{Shape}
use Rattle.svg_text.specs.Shapes.{circle_of, label_of}
use Rattle.svg_text.specs.Text.{shape_text}
use Rattle.svg_text.specs.declared.shapes.Spot.{Spot}
use Rattle.rail_model.specs.Layout.{Layout, Point, Link}
use Rattle.rail_model.specs.Table.{Table}
use Rattle.layout_picture.specs.declared.arrows.Heading.{Heading}
use Rattle.layout_picture.specs.declared.arrows.TheConstants.{ARROW, SQUARE}
use Rattle.layout_frame.specs.Spots.{painted}
use Rattle.layout_picture.specs.Red.{IsRed, is_red}
use Rattle.layout_picture.specs.Arrows.{mark_of, outline_of, IsArrow}
use Rattle.layout_picture.specs.Areas.{area_of, inside, stripes_over, way_over}
use Rattle.layout_picture.specs.Drawn.{IsLayer, Shows, Subject, next_step, ground_of}
use Rattle.layout_picture.specs.declared.layers.Layer.TheVariants.{Ground, Names}

abbrev named : List ℕ → Point
named name = record { name = name; zone = 0 }

abbrev between : ℕ → ℕ → Link
between first second = record { first = first; second = second }

-- the points A, B, C and D, and a way from each to the next
abbrev line : Layout
line = record {
  points = named (codes "A") ∷ named (codes "B") ∷ named (codes "C") ∷ named (codes "D") ∷ [];
  links = between 0 1 ∷ between 1 2 ∷ between 2 3 ∷ [];
  zones = 1;
}

abbrev at : ℕ → Spot
at x = record { x = x; y = 50 }

abbrev spots : List Spot
spots = at 10 ∷ at 20 ∷ at 30 ∷ at 40 ∷ []

-- T0 goes from A to C and is counted from B on, T1 leaves the layout after D
abbrev trains : Table
trains = record {
  missions = record { points = 0 ∷ 1 ∷ 2 ∷ []; exits = false } ∷ record { points = 3 ∷ []; exits = true } ∷ [];
  sections =
      record { limit = 1; changes = (pos 0 ∷ pos 1 ∷ pos 0 ∷ []) ∷ (pos 0 ∷ pos 0 ∷ []) ∷ [] } ∷ [];
  connections = [];
}

-- B and C are in the section
inside_row : inside trains 4 0 ≡ false ∷ true ∷ true ∷ false ∷ []
inside_row = refl

-- its area: a dot at B, a dot at C, and the link between them
abbrev area_text : List ℕ
area_text = codes "M20,50 h0 M30,50 h0 M20,50 L30,50 "

way_row : way_over line spots (inside trains 4 0) ≡ area_text
unfolding digits
way_row = refl

area_row : shape_text (area_of line trains spots 60 0)
    ≡ codes "<path d=\"M20,50 h0 M30,50 h0 M20,50 L30,50 \" stroke=\"#e8b923\" stroke-width=\"60\"></path>\n"
unfolding digits
area_row = refl

-- the first section is plain, and the second has stripes
plain_row : stripes_over line trains spots 60 0 ≡ []
unfolding digits
plain_row = refl

striped_row : stripes_over line trains spots 60 1 ≡ painted (area_of line trains spots 60 1) (codes "stroke-dasharray") (codes "2 5") ∷ []
unfolding digits
striped_row = refl

-- T0 is on its way at B, and has arrived at C
on_its_way_row : outline_of trains (1 ∷ 0 ∷ []) 0 ≡ ARROW
on_its_way_row = refl

arrived_row : outline_of trains (2 ∷ 0 ∷ []) 0 ≡ SQUARE
arrived_row = refl

-- T1 has left the layout
left_row : IsArrow trains (0 ∷ 1 ∷ []) [] spots 1 []
left_row = refl

-- its step from B to C, and none from C on
step_row : next_step trains (1 ∷ 0 ∷ []) 0 ≡ between 1 2 ∷ []
step_row = refl

no_step_row : next_step trains (2 ∷ 0 ∷ []) 0 ≡ []
no_step_row = refl

abbrev down : Heading
down = record { right = pos 0; down = pos 1000 }

-- an arrow that points down
arrow_row : shape_text (mark_of down (record { x = 100; y = 200 }) (pos 30) ARROW)
    ≡ codes "<polygon points=\"100,215 90,190 100,195 110,190 \"></polygon>\n"
unfolding digits
arrow_row = refl

square_row : shape_text (mark_of down (record { x = 100; y = 200 }) (pos 30) SQUARE)
    ≡ codes "<polygon points=\"90,210 90,190 110,190 110,210 \"></polygon>\n"
unfolding digits
square_row = refl

red_row : is_red (codes "#d00000") ≡ true
red_row = refl

-- a train of the knot is red
knot_row : IsRed trains (1 ∷ 0 ∷ []) (0 ∷ []) 0
knot_row = inr refl

blue_row : is_red (codes "#0b5fa5") ≡ false
blue_row = refl

painted_row : shape_text (painted (circle_of (at 10) 5) (codes "fill") (codes "red"))
    ≡ codes "<circle cx=\"10\" cy=\"50\" r=\"5\" fill=\"red\"></circle>\n"
unfolding digits
painted_row = refl

ground_row : shape_text (ground_of 800 400) ≡ codes "<rect width=\"800\" height=\"400\"></rect>\n"
unfolding digits
ground_row = refl

abbrev subject : Subject
subject = record { layout = line; names = []; table = trains; places = 0 ∷ 1 ∷ []; knot = []; spots = spots; across = 60; width = 800; height = 400 }

-- the group of the ground
ground_group_row : IsLayer subject Ground (record { class = codes "background"; attributes = []; title = codes "ground"; shapes = ground_of 800 400 ∷ [] })
ground_group_row = record { class = refl; plain = refl; shows = refl }

abbrev name_at : ℕ → List ℕ → Shape
name_at x name = label_of (at x) name

-- the names of the points, in order
names_row : Shows subject Names (name_at 10 (codes "A") ∷ name_at 20 (codes "B") ∷ name_at 30 (codes "C") ∷ name_at 40 (codes "D") ∷ [])
names_row = refl
