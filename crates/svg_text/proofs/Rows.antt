-- Worked rows: the text of each shape.
use Rattle.std.proofs.Common.{◌≡◌, ◌∷◌, [], refl}
use Rattle.std.specs.Prelude.{codes}
use Rattle.std.specs.Fmt.{digits}
use Rattle.svg_text.specs.Shapes.{line_of, circle_of, label_of, polygon_of}
use Rattle.svg_text.specs.Text.{shape_text}
use Rattle.svg_text.specs.declared.shapes.Spot.{Spot}

abbrev here : Spot
here = record { x = 3; y = 40 }

abbrev there : Spot
there = record { x = 17; y = 5 }

line_row : shape_text (line_of here there) ≡ codes "<line x1=\"3\" y1=\"40\" x2=\"17\" y2=\"5\"></line>\n"
unfolding digits
line_row = refl

circle_row : shape_text (circle_of here 7) ≡ codes "<circle cx=\"3\" cy=\"40\" r=\"7\"></circle>\n"
unfolding digits
circle_row = refl

-- words are escaped
label_row : shape_text (label_of here (codes "A & B")) ≡ codes "<text x=\"3\" y=\"40\">A &amp; B</text>\n"
unfolding digits
label_row = refl

-- a shape with a title
titled_row : shape_text (record (line_of here there) { title = codes "T0 & T1" })
    ≡ codes "<line x1=\"3\" y1=\"40\" x2=\"17\" y2=\"5\"><title>T0 &amp; T1</title>\n</line>\n"
unfolding digits
titled_row = refl

polygon_row : shape_text (polygon_of (here ∷ there ∷ [])) ≡ codes "<polygon points=\"3,40 17,5 \"></polygon>\n"
unfolding digits
polygon_row = refl
