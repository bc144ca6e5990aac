-- The text of a picture.
use Rattle.std.specs.Prelude.{◌≡◌, ℕ, ◌==◌, List, [], ◌∷◌, ◌++◌, flat_map, codes, decimal, if◌then◌else◌}
use Rattle.svg_text.specs.Tree.{Attribute, Shape, Group, Picture}

-- a byte, or the reference for it where markup would be read
abbrev pub escape_byte : ℕ → List ℕ
escape_byte b =
    if b == 38 then codes "&amp;" else if b == 60 then codes "&lt;" else if b == 62 then codes "&gt;" else if b == 34 then codes "&quot;" else b ∷ []

-- words with no markup in them
abbrev pub escape : List ℕ → List ℕ
escape words = flat_map escape_byte words

-- one attribute, after a space
abbrev pub attribute_text : Attribute → List ℕ
attribute_text a = codes " " ++ a.name ++ codes "=\"" ++ escape a.value ++ codes "\""

-- the tag that opens an element
abbrev pub open_text : List ℕ → List Attribute → List ℕ
open_text name attributes = codes "<" ++ name ++ flat_map attribute_text attributes ++ codes ">"

-- the tag that closes an element
abbrev pub close_text : List ℕ → List ℕ
close_text name = codes "</" ++ name ++ codes ">\n"

-- an element: its opening tag, what is in it, and its closing tag
abbrev pub element_text : List ℕ → List Attribute → List ℕ → List ℕ
element_text name attributes content = open_text name attributes ++ content ++ close_text name

-- the title of a shape, if it has one
abbrev pub title_text : List ℕ → List ℕ
title_text [] = []
title_text (b ∷ words) = element_text (codes "title") [] (escape (b ∷ words))

abbrev pub shape_text : Shape → List ℕ
shape_text s = element_text s.name s.attributes (title_text s.title ++ escape s.words)

abbrev pub class_of : Group → Attribute
class_of g = record { name = codes "class"; value = g.class }

abbrev pub group_text : Group → List ℕ
group_text g =
    element_text (codes "g") (class_of g ∷ g.attributes)
    (element_text (codes "title") [] (escape g.title) ++ flat_map shape_text g.shapes)

-- the size as a viewer takes it: `0 0 WIDTH HEIGHT`
abbrev pub view_box : Picture → List ℕ
view_box p = codes "0 0 " ++ decimal p.width ++ codes " " ++ decimal p.height

abbrev pub picture_attributes : Picture → List Attribute
picture_attributes p =
    record { name = codes "xmlns"; value = codes "http://www.w3.org/2000/svg" }
    ∷ record { name = codes "viewBox"; value = view_box p }
    ∷ record { name = codes "role"; value = codes "img" }
    ∷ []

-- the whole text
abbrev pub svg_text : Picture → List ℕ
svg_text p =
    element_text (codes "svg") (picture_attributes p)
    (element_text (codes "title") [] (escape p.title) ++ element_text (codes "style") [] (escape p.style) ++ flat_map group_text p.groups)

-- The bytes are the text of a picture: each element that is opened is closed, and words and values are escaped.
pub record IsPicture (bytes : List ℕ) : Type 0 where
  pub picture : Picture
  pub text : bytes ≡ svg_text picture
