-- Shapes that are added to others, part by part.
use Rattle.std.proofs.Common.{◌≡◌, ◌∙◌, ℕ, suc, ◌+◌, ◌<◌, List, [], ◌∷◌, ◌++◌, length, get_or, map, flat_map, take, refl, sym, ap, ap₂, subst, append_assoc, arith}
use Rattle.std.specs.Prelude.{Some, codes, false, ◌==◌}
use Rattle.layout_frame.specs.Spots.{painted}
use Rattle.layout_picture.specs.Areas.{striped}
use Rattle.std.proofs.lemmas.List.{append-nil, map-append, take_more}
use Rattle.std.proofs.lemmas.Grind.{flat_map-append}
use Rattle.std.proofs.lemmas.List.FromFn.{map-range_with_len_more}
use Rattle.svg_text.specs.Tree.{Shape}
use Rattle.svg_text.specs.declared.shapes.Spot.{Spot}
use Rattle.rail_model.specs.Layout.{Link}
use Rattle.rail_model.specs.Checks.{below}
use Rattle.layout_picture.specs.Marks.{ends_of, link_ends, stroke_of}
use Rattle.layout_picture.specs.Drawn.{AddsShapes, AreLinkLines, AreOfTrains, step_between}

-- nothing is added
pub adds_none : (P : List Shape → Type 0) (before : List Shape) → P [] → AddsShapes P before before
adds_none P before none = record { own = []; joined = sym (append-nil before); is_own = none }

-- a shape is added
pub adds_one : (P : List Shape → Type 0) (before after : List Shape) (shape : Shape) → after ≡ before ++ shape ∷ [] → P (shape ∷ []) → AddsShapes P before after
adds_one P before after shape pushed is = record { own = shape ∷ []; joined = pushed; is_own = is }

-- what is added to nothing is all
pub all_added : (P : List Shape → Type 0) (before after : List Shape) → before ≡ [] → AddsShapes P before after → P after
all_added P before after none adds = subst P (sym (adds.joined ∙ ap (λ (shapes : List Shape). shapes ++ adds.own) none)) adds.is_own

-- shapes are added, and then others
adds_both : (P Q R : List Shape → Type 0) (first now after : List Shape) → ((own more : List Shape) → P own → Q more → R (own ++ more))
    → AddsShapes P first now → AddsShapes Q now after → AddsShapes R first after
adds_both P Q R first now after both so_far adds = record {
  own = so_far.own ++ adds.own;
  joined = adds.joined ∙ ap (λ (shapes : List Shape). shapes ++ adds.own) so_far.joined ∙ append_assoc first so_far.own adds.own;
  is_own = both so_far.own adds.own so_far.is_own adds.is_own;
}

-- one train more
pub adds_train : (P : ℕ → List Shape → Type 0) (n : ℕ) (first now after : List Shape) → AddsShapes (AreOfTrains P n) first now → AddsShapes (P n) now after
    → AddsShapes (AreOfTrains P (n + 1)) first after
adds_train P n first now after so_far adds =
    let next : n + 1 ≡ suc n = omega arith in
    rw next (adds_both (AreOfTrains P n) (P n) (AreOfTrains P (suc n)) first now after
    (λ own more each last. (own, each, record { own = more; joined = refl; is_own = last })) so_far adds)

-- the lines of more links
pub adds_lines : (spots : List Spot) (before more : List Link) (first now after : List Shape) → AddsShapes (AreLinkLines spots before) first now
    → AddsShapes (AreLinkLines spots more) now after → AddsShapes (AreLinkLines spots (before ++ more)) first after
adds_lines spots before more first now after =
    adds_both (AreLinkLines spots before) (AreLinkLines spots more) (AreLinkLines spots (before ++ more)) first now after (λ own others a b. record {
      ways = a.ways ++ b.ways;
      ends = map-append ends_of a.ways b.ways ∙ ap₂ (λ xs ys. xs ++ ys) a.ends b.ends ∙ sym (map-append (link_ends spots) before more);
      lines = ap₂ (λ xs ys. xs ++ ys) a.lines b.lines ∙ sym (map-append stroke_of a.ways b.ways);
    })

-- the line of one link more
pub next_line : (spots : List Spot) (links : List Link) (i : ℕ) (d : Link) (here next : ℕ) (first now after : List Shape) → i < length links
    → here ≡ (get_or links i d).first → next ≡ (get_or links i d).second → AddsShapes (AreLinkLines spots (take i links)) first now
    → AddsShapes (AreLinkLines spots (step_between (Some here) (Some next))) now after → AddsShapes (AreLinkLines spots (take (i + 1) links)) first after
next_line spots links i d here next first now after lt here_is next_is so_far adds =
    let link : step_between (Some here) (Some next) ≡ get_or links i d ∷ [] = ap₂ (λ (a b : ℕ). step_between (Some a) (Some b)) here_is next_is in
    subst (λ (ls : List Link). AddsShapes (AreLinkLines spots ls) first after) (sym (take_more links i d lt))
    (adds_lines spots (take i links) (get_or links i d ∷ []) first now after so_far
    (subst (λ (ls : List Link). AddsShapes (AreLinkLines spots ls) now after) link adds))

-- the numbers below the next one
below_next : (n : ℕ) → below (n + 1) ≡ below n ++ n ∷ []
below_next n = sym (map-id (below (n + 1))) ∙ map-range_with_len_more (λ k. k) 0 n n (omega arith) ∙ ap (λ ks. ks ++ n ∷ []) (map-id (below n))
  where
    map-id : (ks : List ℕ) → map (λ k. k) ks ≡ ks
    map-id [] = refl
    map-id (k ∷ ks) = ap (λ js. k ∷ js) (map-id ks)

-- the area of one section more
pub next_area : (f : ℕ → Shape) (n : ℕ) (first now after : List Shape) → now ≡ first ++ map f (below n) → after ≡ now ++ f n ∷ [] →
    after ≡ first ++ map f (below (n + 1))
next_area f n first now after so_far pushed =
    pushed ∙ ap (λ (ss : List Shape). ss ++ f n ∷ []) so_far ∙ append_assoc first (map f (below n)) (f n ∷ [])
    ∙ ap (λ (ss : List Shape). first ++ ss) (sym (map-range_with_len_more f 0 n n (omega arith)))

-- the stripes of one section more
pub next_stripes : (f : ℕ → List Shape) (n : ℕ) (first now after : List Shape) → now ≡ first ++ flat_map f (below n) → after ≡ now ++ f n →
    after ≡ first ++ flat_map f (below (n + 1))
next_stripes f n first now after so_far pushed =
    let grown : flat_map f (below (n + 1)) ≡ flat_map f (below n) ++ f n =
    ap (flat_map f) (below_next n) ∙ flat_map-append f (below n) (n ∷ []) ∙ ap (λ ss. flat_map f (below n) ++ ss) (append-nil (f n)) in
    pushed ∙ ap (λ (ss : List Shape). ss ++ f n) so_far ∙ append_assoc first (flat_map f (below n)) (f n) ∙ ap (λ ss. first ++ ss) (sym grown)

-- an area has stripes
pub with_stripes : (area : Shape) (pattern : List ℕ) → (length pattern == 0) ≡ false → striped area pattern ≡ painted area (codes "stroke-dasharray") pattern ∷ []
with_stripes area [] some = cc
with_stripes area (b ∷ bs) some = refl
