-- What a picture of a layout shows.
use Rattle.std.specs.Prelude.{◌≡◌, ℕ, zero, suc, ◌+◌, ◌<◌, Bool, Decides, List, [], ◌∷◌, ◌++◌, length, map, codes, decimal, flat_map, Option, Some, None, String, if◌then◌else◌}
use Rattle.std.specs.declared.alloc.Global.{Global}
use Rattle.std.specs.List.{AllZip}
use Rattle.svg_text.specs.Tree.{Shape, Group}
use Rattle.svg_text.specs.declared.shapes.Spot.{Spot}
use Rattle.rail_model.specs.Layout.{Layout, Link, point_names}
use Rattle.rail_model.specs.Table.{Table, trains, point, place}
use Rattle.rail_model.specs.Checks.{below}
use Rattle.layout_picture.specs.declared.tracks.Way.{Way}
use Rattle.layout_frame.specs.Legend.{AddsLegend}
use Rattle.layout_frame.specs.Spots.{words_of}
use Rattle.layout_frame.specs.declared.frame.View.{View}
use Rattle.layout_picture.specs.declared.layers.Layer.{Layer}
use Rattle.layout_picture.specs.declared.layers.Layer.TheVariants.{Ground, Sections, Stripes, Links, Circle, Points, Numbers, Arrows, Names, Trains, Legend, Heading}
use Rattle.layout_picture.specs.Marks.{dot_at, stroke_of, ends_of, link_ends}
use Rattle.state_sentences.specs.Knot.{IsKnotOrNone}
use Rattle.layout_picture.specs.Red.{IsRed}
use Rattle.layout_picture.specs.Arrows.{IsArrow}
use Rattle.layout_picture.specs.Areas.{area_of, inside, stripes_over}

-- The shapes are lines, one for each link, between the spots of its points.
pub record AreLinkLines (spots : List Spot) (links : List Link) (shapes : List Shape) : Type 0 where
  pub ways : List Way
  pub ends : map ends_of ways ≡ map (link_ends spots) links
  pub lines : shapes ≡ map stroke_of ways

-- Some shapes are added to others, and they are as P says.
pub record AddsShapes (P : List Shape → Type 0) (before after : List Shape) : Type 0 where
  pub own : List Shape
  pub joined : after ≡ before ++ own
  pub is_own : P own

-- The shapes are those of the trains 0 to n - 1, one train after another, and of each train as P says.
abbrev pub AreOfTrains : (ℕ → List Shape → Type 0) → ℕ → List Shape → Type 0
AreOfTrains P zero shapes = shapes ≡ []
AreOfTrains P (suc n) shapes = (before : List Shape) × AreOfTrains P n before × AddsShapes (P n) before shapes

-- a step between two points, if there are both
abbrev pub step_between : Option ℕ → Option ℕ → List Link
step_between (Some here) (Some next) = record { first = here; second = next } ∷ []
step_between (Some here) None = []
step_between None next = []

-- the step of a train from its point to its next one
abbrev pub next_step : Table → List ℕ → ℕ → List Link
next_step T p i = step_between (point T i (place p i)) (point T i (place p i + 1))

-- The shapes are a line from train i to its next point, if the train is red; else there are none.
pub record IsWait (T : Table) (p knot : List ℕ) (spots : List Spot) (i : ℕ) (shapes : List Shape) : Type 0 where
  pub red : Bool
  pub is_red : Decides red (IsRed T p knot i)
  pub line : AreLinkLines spots (if red then next_step T p i else []) shapes

-- for each point of the layout, whether it is in section s
abbrev pub marks : View → ℕ → List Bool
marks v s = inside v.scene.now.table.now (length v.layout.now.points) s

-- a ground of this size
abbrev pub ground_of : ℕ → ℕ → Shape
ground_of width height = record {
  name = codes "rect";
  attributes =
      record { name = codes "width"; value = decimal width } ∷ record { name = codes "height"; value = decimal height } ∷ [];
  title = [];
  words = [];
}

-- all layers, from the back to the front
abbrev pub layers : List Layer
layers =
    Ground ∷ Sections ∷ Stripes ∷ Links ∷ Circle ∷ Points ∷ Numbers ∷ Arrows ∷ Names ∷ Trains ∷ Legend ∷ Heading ∷ []

-- the class of the group of a layer
abbrev pub class_name : Layer → List ℕ
class_name Ground = codes "background"
class_name Sections = codes "sections"
class_name Stripes = codes "stripes"
class_name Links = codes "links"
class_name Circle = codes "circle"
class_name Points = codes "points"
class_name Numbers = codes "numbers"
class_name Arrows = codes "arrows"
class_name Names = codes "names"
class_name Trains = codes "trains"
class_name Legend = codes "legend"
class_name Heading = codes "heading"

-- What is drawn: a layout, and a table, whose sections have names, with trains at their places, some of them in a knot; with spots for the
-- points, in columns so far apart, in this size.
pub record Subject : Type 0 where
  pub layout : Layout
  pub names : List (String Global)
  pub table : Table
  pub places : List ℕ
  pub knot : List ℕ
  pub spots : List Spot
  pub across : ℕ
  pub width : ℕ
  pub height : ℕ

abbrev pub subject_of : View → Subject
subject_of v = record {
  layout = v.layout.now;
  names = v.sections.now;
  table = v.scene.now.table.now;
  places = v.scene.now.state.now;
  knot = v.knot.now;
  spots = v.frame.now.spots.items;
  across = v.frame.now.grid.across;
  width = v.frame.now.grid.width;
  height = v.frame.now.height;
}

-- Ground: as large as the picture. Sections: an area for each. Stripes: those of each area that isn't plain. Links: a line for each. Circle: a broad line from each red train.
-- Points: a dot for each spot. Arrows: one for each train. Names: the name of each point, in order. Legend: the words of each section among
-- those of trains. Of other words nothing is said.
abbrev pub Shows : Subject → Layer → List Shape → Type 0
Shows S Ground shapes = shapes ≡ ground_of S.width S.height ∷ []
Shows S Sections shapes = shapes ≡ map (area_of S.layout S.table S.spots S.across) (below (length S.table.sections))
Shows S Stripes shapes = shapes ≡ flat_map (stripes_over S.layout S.table S.spots S.across) (below (length S.table.sections))
Shows S Links shapes = AreLinkLines S.spots S.layout.links shapes
Shows S Circle shapes = AreOfTrains (IsWait S.table S.places S.knot S.spots) (trains S.table) shapes
Shows S Points shapes = shapes ≡ map dot_at S.spots
Shows S Numbers shapes = Unit {0}
Shows S Arrows shapes = AreOfTrains (IsArrow S.table S.places S.knot S.spots) (trains S.table) shapes
Shows S Names shapes = words_of shapes ≡ point_names S.layout
Shows S Trains shapes = Unit {0}
Shows S Legend shapes = AddsLegend S.names S.table [] (words_of shapes)
Shows S Heading shapes = Unit {0}

-- The group is that of the layer: it has its class and no other attribute, so that nothing hides or moves it, and shows what it should.
pub record IsLayer (S : Subject) (layer : Layer) (g : Group) : Type 0 where
  pub class : g.class ≡ class_name layer
  pub plain : g.attributes ≡ []
  pub shows : Shows S layer g.shapes

-- The picture has a size, a spot for each point, a knot exactly if the state has one, and exactly one group for each layer, in order.
pub record IsDrawn (L : Layout) (names : List (String Global)) (T : Table) (p : List ℕ) (width height : ℕ) (groups : List Group) : Type 0 where
  pub spots : List Spot
  pub across : ℕ
  pub knot : List ℕ
  pub wide : 0 < width
  pub high : 0 < height
  pub spot_for_each : length spots ≡ length L.points
  pub is_knot : IsKnotOrNone T p knot
  pub layered : AllZip
      (IsLayer (record { layout = L; names = names; table = T; places = p; knot = knot; spots = spots; across = across; width = width; height = height }))
      layers groups
