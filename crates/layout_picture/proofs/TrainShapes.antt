-- What is drawn of one train.
use Rattle.std.proofs.Common.{◌≡◌, ◌∙◌, ℕ, ◌+◌, ◌-◌, ◌<◌, ◌≤◌, ◌^◌, List, [], ◌∷◌, ap, ap₂, arith}
use Rattle.std.specs.Prelude.{ℤ, Some, min, codes}
use Rattle.std.proofs.Math.Nat.{min-eq_left}
use Rattle.svg_text.specs.Tree.{Shape}
use Rattle.svg_text.specs.declared.shapes.Spot.{Spot}
use Rattle.rail_model.specs.Table.{Table, IsTable, trains, last}
use Rattle.layout_picture.specs.declared.tracks.Way.{Way}
use Rattle.layout_picture.specs.declared.arrows.Heading.{Heading}
use Rattle.layout_picture.specs.declared.arrows.Outline.{Outline}
use Rattle.layout_frame.specs.Spots.{painted}
use Rattle.layout_picture.specs.Marks.{WayEnds, ends_of, ends_at, stroke_of}
use Rattle.layout_picture.specs.Red.{IsColour}
use Rattle.layout_picture.specs.Arrows.{mark_of, outline_of, IsMark}
use Rattle.layout_picture.specs.Drawn.{AreLinkLines, step_between}

-- the number of the next place is small
pub next_place : (T : Table) (i k : ℕ) → IsTable T → i < trains T → k ≤ last T i → min (k + 1) (2 ^ 32 - 1) ≡ k + 1
next_place T i k formed lt low =
    let few : last T i ≤ 127 = (formed.missions i lt).few_places in
    min-eq_left (omega (arith, few, low))

-- the line of a way is that of a step
pub step_line : (spots : List Spot) (here next : ℕ) (w : Way) (shape : Shape) → ends_of w ≡ ends_at spots here next → shape ≡ stroke_of w
    → AreLinkLines spots (step_between (Some here) (Some next)) (shape ∷ [])
step_line spots here next w shape ends line = record {
  ways = w ∷ [];
  ends = ap (λ (e : WayEnds). e ∷ []) ends;
  lines = ap (λ (s : Shape). s ∷ []) line;
}

module _ (T : Table) (p knot : List ℕ) (i : ℕ) where
  -- a mark in the colour of the train
  pub is_mark : (h : Heading) (at spot : Spot) (size : ℤ) (o : Outline) (colour : List ℕ) (mark shape : Shape) → at ≡ spot → o ≡ outline_of T p i
      → mark ≡ mark_of h at size o → shape ≡ painted mark (codes "fill") colour → IsColour T p knot i colour → IsMark T p knot i spot (shape ∷ [])
  is_mark h at spot size o colour mark shape at_is o_is mark_is shape_is colour_is = record {
    heading = h;
    size = size;
    colour = colour;
    is_colour = colour_is;
    mark = ap (λ (s : Shape). s ∷ [])
        (shape_is ∙ ap (λ (s : Shape). painted s (codes "fill") colour) (mark_is ∙ ap₂ (λ (a : Spot) (b : Outline). mark_of h a size b) at_is o_is));
  }
