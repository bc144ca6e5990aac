-- The layers of a train graph, each a group of its picture.
use Rattle.std.specs.Prelude.{◌≡◌, ℕ, true, false, ◌+◌, ◌-◌, List, [], ◌∷◌, codes, flat_map, map}
use Rattle.rail_model.specs.Layout.{Layout}
use Rattle.run_timetable.specs.Timetable.{name_of}
use Rattle.svg_text.specs.Tree.{Group, Shape}
use Rattle.svg_text.specs.Shapes.{label_of, line_of}
use Rattle.train_graph.specs.declared.layers.Layer.{Layer}
use Rattle.train_graph.specs.declared.layers.Layer.TheVariants.{Paper, Ticks, Points, Tables, Blocks, Stays, Waits, Moves, Starts, Ends, Legend}
use Rattle.train_graph.specs.declared.scale.Axes.{Axes}
use Rattle.train_graph.specs.Blocks.{wished_blocks}
use Rattle.train_graph.specs.Marks.{all_levels, mark_of}
use Rattle.train_graph.specs.Places.{y_at}
use Rattle.train_graph.specs.Subject.{Subject}

-- all layers, from the back to the front
abbrev pub layers : List Layer
layers = Paper ∷ Ticks ∷ Points ∷ Tables ∷ Blocks ∷ Stays ∷ Waits ∷ Moves ∷ Starts ∷ Ends ∷ Legend ∷ []

-- the class of a layer's group
abbrev pub class_of : Layer → List ℕ
class_of Paper = codes "paper"
class_of Ticks = codes "ticks"
class_of Points = codes "points"
class_of Tables = codes "table"
class_of Blocks = codes "block"
class_of Stays = codes "stay"
class_of Waits = codes "wait"
class_of Moves = codes "moves"
class_of Starts = codes "start"
class_of Ends = codes "end"
class_of Legend = codes "legend"

-- the row of a point: a line over all ticks, and the point's name, which begins so far to the left of them
abbrev pub row_shapes : Axes → Layout → ℕ → ℕ → List Shape
row_shapes axes L before p =
    line_of (record { x = axes.left; y = y_at axes p }) (record { x = axes.left + axes.width; y = y_at axes p })
    ∷ label_of (record { x = axes.left - before; y = y_at axes p + 4 }) (name_of L p)
    ∷ []

-- Points: exactly a row for each point that has one. Moves: exactly a mark for each step, which says from where to where it leads, and when.
-- Stays: exactly a level line for each train where it stays at the end; waits: for each train where it waits for its next step. They say when
-- the train arrives and leaves, how long it waits, and for what. Blocks: exactly a bar for each point that a train takes, if bars are wished.
-- Of the others nothing is said.
abbrev pub Shows : Subject → Layer → List Shape → Type 0
Shows S Points shapes = (before : ℕ) × (shapes ≡ flat_map (row_shapes S.axes S.layout before) S.axes.rows.items)
Shows S Moves shapes = shapes ≡ map (mark_of S) S.run.steps.items
Shows S Paper shapes = Unit {0}
Shows S Ticks shapes = Unit {0}
Shows S Tables shapes = Unit {0}
Shows S Blocks shapes = shapes ≡ wished_blocks S
Shows S Stays shapes = shapes ≡ all_levels S true
Shows S Waits shapes = shapes ≡ all_levels S false
Shows S Starts shapes = Unit {0}
Shows S Ends shapes = Unit {0}
Shows S Legend shapes = Unit {0}

-- The group is that of the layer: it has its class and no other attribute, so that nothing hides or moves it, and shows what it should.
pub record IsLayer (S : Subject) (layer : Layer) (g : Group) : Type 0 where
  pub class : g.class ≡ class_of layer
  pub plain : g.attributes ≡ []
  pub shows : Shows S layer g.shapes
