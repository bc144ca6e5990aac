-- Tables that are alike by names are the same, but for sections behind the plan's.
use Rattle.std.proofs.Common.{◌≡◌, ◌∙◌, ℕ, suc, ◌<◌, List, [], ◌∷◌, map, length, false, refl, sym, ap, arith}
use Rattle.std.specs.Prelude.{Some, slice_get, slice_index_or}
use Rattle.std.proofs.lemmas.List.{length-map}
use Rattle.document_json.specs.Doc.{Doc, IsDoc, doc_table, table_at}
use Rattle.rail_model.specs.Layout.{point_names}
use Rattle.rail_model.specs.Names.{AreNames}
use Rattle.rail_model.specs.Table.{mission, trains}
use Rattle.document_origin.specs.Origin.{AreAlike, HaveSameTables, IsAlike, IsOf, IsTableOf, point_in}
use Rattle.document_origin.proofs.SameLists.{same_at_each}

-- numbers of names that are the same are the same
same_numbers : (names : List (List ℕ)) → AreNames names → (xs ys : List ℕ)
    → ((k q : ℕ) → slice_get xs k ≡ Some q → q < length names) → ((k q : ℕ) → slice_get ys k ≡ Some q → q < length names)
    → map (λ q. slice_index_or names q []) xs ≡ map (λ q. slice_index_or names q []) ys → xs ≡ ys
same_numbers names named [] [] low_xs low_ys same = refl
same_numbers names named [] (y ∷ ys) low_xs low_ys same = cc
same_numbers names named (x ∷ xs) [] low_xs low_ys same = cc
same_numbers names named (x ∷ xs) (y ∷ ys) low_xs low_ys same =
    let head : slice_index_or names x [] ≡ slice_index_or names y [] = cc in
    let tail : map (λ q. slice_index_or names q []) xs ≡ map (λ q. slice_index_or names q []) ys = cc in
    let first : x ≡ y = named.apart x y (low_xs 0 x refl) (low_ys 0 y refl) head in
    let later : xs ≡ ys = same_numbers names named xs ys (λ k q is. low_xs (suc k) q is) (λ k q is. low_ys (suc k) q is) tail in
    cc

module _ (D P : Doc) (formed : IsDoc D) (planned : IsDoc P) (layout : D.layout ≡ P.layout) (have : HaveSameTables D P) (t : ℕ) (within : t < length P.tables)
    (alike : IsAlike D P t) where
  there : t < length D.tables
  there = omega (arith, within, have.count)

  size : trains (table_at D t) ≡ trains (table_at P t)
  size = formed.trains t there ∙ ap length have.trains ∙ sym (planned.trains t within)

  same_points : (i : ℕ) → i < trains (table_at P t) → (mission (table_at D t) i).points ≡ (mission (table_at P t) i).points
  same_points i lt =
      let xs = (mission (table_at D t) i).points in
      let ys = (mission (table_at P t) i).points in
      let names = length-map P.layout.points (λ q. q.name) in
      let low : length D.layout.points ≡ length P.layout.points = ap (λ L. length L.points) layout in
      same_numbers (point_names P.layout) planned.layout.named xs ys
      (λ k q is. let below = formed.points t there i k q is in omega (arith, below, low, names))
      (λ k q is. let below = planned.points t within i k q is in omega (arith, below, names))
      (sym (ap (λ L. map (point_in L) xs) layout) ∙ (alike.wait.go i lt).route)

  same_missions : (table_at D t).missions ≡ (table_at P t).missions
  same_missions =
      same_at_each (table_at D t).missions (table_at P t).missions (record { points = []; exits = false }) size
      (λ i lt.
      let low : i < trains (table_at P t) = omega (arith, lt, size) in
      let points = same_points i low in
      let exits = (alike.wait.go i low).exits in
      (λ k. record { points = points k; exits = exits k }))

  same_times : (doc_table D t).times ≡ (doc_table P t).times
  same_times =
      let many = (formed.times t there).one_each in
      let planned_many = (planned.times t within).one_each in
      same_at_each (doc_table D t).times (doc_table P t).times [] (many ∙ size ∙ sym planned_many)
      (λ i lt. (alike.wait.go i (omega (arith, lt, many, size))).times)

  table_is_of : IsTableOf (doc_table D t) (doc_table P t)
  table_is_of = record { missions = same_missions; times = same_times; connections = alike.wait.wait; after = alike.after; sections = alike.sections }

-- documents whose tables, starts and layouts are alike
pub is_of_alike : (D P : Doc) → IsDoc D → IsDoc P → HaveSameTables D P → AreAlike D P (length P.tables) → D.start ≡ P.start → D.layout ≡ P.layout → IsOf D P
is_of_alike D P formed planned have alike start layout = record {
  layout = layout;
  trains = have.trains;
  start = start;
  count = have.count;
  tables = λ t within. table_is_of D P formed planned layout have t within (alike t within);
}
