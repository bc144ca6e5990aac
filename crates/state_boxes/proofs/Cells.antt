-- Rows that stand one after another in one list of cells.
use Rattle.std.proofs.Common.{◌≡◌, ℕ, ◌+◌, ◌-◌, ◌*◌, ◌/◌, ◌<◌, ◌≤◌, ℤ, pos, refl, List, [], length, get_or, take, drop, sym, ◌∙◌, ap, subst, arith}
use Rattle.std.proofs.Math.Seq.{take-length}
use Rattle.std.proofs.lemmas.List.{length-drop, length-take-le, get_or-drop, get_or-take}
use Rattle.std.proofs.lemmas.Nat.{div-mul-add, mod-mul-add, mul-le}
use Rattle.std.proofs.lemmas.List.FromFn.{get_or-map-range_with_len, length-map-range_with_len}
use Rattle.std.specs.List.{slice_range}
use Rattle.rail_model.specs.Table.{Table, last, share}
use Rattle.state_boxes.specs.declared.extremes.Extremes.{Extremes}
use Rattle.state_boxes.specs.Cells.{cells_of, rows_of, AreSingle}
use Rattle.state_boxes.specs.Each.{IsEach}
use Rattle.state_boxes.specs.Extremes.{nothing, joined, IsExtremes, IsRow, IsLevel, IsJoinedRow}
use Rattle.state_boxes.proofs.Halved.{list_many, cell_is}
use Rattle.state_boxes.proofs.Joins.{row_join}

-- the cells of a row end before those of the rows after it
pub row_end : (k rows size : ℕ) → k < rows → k * size + size ≤ rows * size
row_end k rows size lt =
    let more : (k + 1) * size ≤ rows * size = mul-le (k + 1) size rows size (omega (arith, lt)) (omega arith) in
    let step : (k + 1) * size ≡ k * size + size = omega arith in
    omega (arith, more, step)

module _ (rows size : ℕ) (cells : List Extremes) where
  pub rows_many : length (rows_of rows size cells) ≡ rows
  rows_many = length-map-range_with_len _ 0 rows

  pub row_at : (k : ℕ) → k < rows → get_or (rows_of rows size cells) k [] ≡ slice_range cells (k * size) (k * size + size)
  row_at k lt = get_or-map-range_with_len _ 0 rows k k [] lt (omega arith)

  pub row_many : (k : ℕ) → k < rows → length cells ≡ rows * size → length (get_or (rows_of rows size cells) k []) ≡ size
  row_many k lt many =
      let ends = row_end k rows size lt in
      let left : length (drop (k * size) cells) ≡ length cells - k * size = length-drop (k * size) cells in
      let taken = length-take-le (k * size + size - k * size) (drop (k * size) cells) (omega (arith, ends, left, many)) in
      let all : k * size + size - k * size ≡ size = omega arith in
      ap (λ (row : List Extremes). length row) (row_at k lt) ∙ taken ∙ all

  pub row_cell : (k s : ℕ) → k < rows → s < size → get_or (get_or (rows_of rows size cells) k []) s nothing ≡ get_or cells (k * size + s) nothing
  row_cell k s lt s_in =
      ap (λ (row : List Extremes). get_or row s nothing) (row_at k lt)
      ∙ get_or-take (k * size + size - k * size) (drop (k * size) cells) s nothing (omega (arith, s_in))
      ∙ get_or-drop (k * size) cells s nothing

-- a row's number and its cells are within those of the level
pub record IsRowOf (rows size many k : ℕ) : Type 0 where
  pub there : k < rows
  pub ends : k * size + size ≤ many

pub row_of : (k rows size : ℕ) (cells : List Extremes) (all : List (List Extremes)) → rows_of rows size cells ≡ all → length cells ≡ rows * size → k < length all
    → IsRowOf rows size (length cells) k
row_of k rows size cells all rows_is many lt =
    let there : k < rows = omega (arith, lt, ap (λ (rs : List (List Extremes)). length rs) rows_is, rows_many rows size cells) in
    record { there = there; ends = omega (arith, row_end k rows size there, many) }

-- the rows of single places
pub single_rows : (T : Table) (i rows : ℕ) (shares : List ℤ) → AreSingle T i shares → length shares ≡ rows * length T.sections
    → IsEach (λ lo row. IsRow T i lo 0 row) rows [] (rows_of rows (length T.sections) (cells_of shares shares))
single_rows T i rows shares single many =
    let n = length T.sections in
    let cells = cells_of shares shares in
    let all : length cells ≡ rows * n = sym (list_many shares shares cells refl refl) ∙ many in (
      rows_many rows n cells,
      λ k lt. (
        row_many rows n cells k lt all,
        λ s s_in.
            let ends = row_end k rows n lt in
            let before : k * n + s < length shares = omega (arith, ends, many, s_in) in
            let cell = row_cell rows n cells k s lt s_in ∙ sym (cell_is shares shares cells refl refl (k * n + s) (omega (arith, list_many shares shares cells refl refl, before))) in
            let here : get_or shares (k * n + s) (pos 0) ≡ share T i s k =
            single.1 (k * n + s) before ∙ ap (λ (t : ℕ). share T i t ((k * n + s) / n)) (mod-mul-add k n s s_in) ∙ ap (share T i s) (div-mul-add k n s s_in) in
            subst (IsExtremes (share T i s) k 0) (sym cell) (record { least_is = here; greatest_is = here }),
      ),
    )

-- each row is joined of two where the cells are joined of those that stand that many rows later
module _ (rows size width : ℕ) (cells both : List Extremes) (fits : width ≤ rows) (many : length cells ≡ rows * size)
    (join : IsJoinedRow (take ((rows - width) * size) cells) (drop (width * size) cells) both) where
  front_many : length (take ((rows - width) * size) cells) ≡ (rows - width) * size
  front_many = length-take-le ((rows - width) * size) cells
      (subst (λ (all : ℕ). (rows - width) * size ≤ all) (sym many) (mul-le (rows - width) size rows size (omega arith) (omega arith)))

  pub joined_many : length both ≡ (rows - width) * size
  joined_many = join.0 ∙ front_many

  joined_cell : (k s : ℕ) → k < rows - width → s < size
      → get_or (get_or (rows_of (rows - width) size both) k []) s nothing
      ≡ joined (get_or (get_or (rows_of rows size cells) k []) s nothing) (get_or (get_or (rows_of rows size cells) (k + width) []) s nothing)
  joined_cell k s lt s_in =
      let ends = row_end k (rows - width) size lt in
      let at = k * size + s in
      let before : at < (rows - width) * size = omega (arith, ends, s_in) in
      let later : width * size + at ≡ (k + width) * size + s = omega arith in
      let first : get_or (take ((rows - width) * size) cells) at nothing ≡ get_or (get_or (rows_of rows size cells) k []) s nothing =
      get_or-take ((rows - width) * size) cells at nothing before ∙ sym (row_cell rows size cells k s (omega (arith, lt)) s_in) in
      let second : get_or (drop (width * size) cells) at nothing ≡ get_or (get_or (rows_of rows size cells) (k + width) []) s nothing =
      get_or-drop (width * size) cells at nothing ∙ ap (λ (j : ℕ). get_or cells j nothing) later
      ∙ sym (row_cell rows size cells (k + width) s (omega (arith, lt)) s_in) in
      row_cell (rows - width) size both k s lt s_in ∙ join.1 at (omega (arith, front_many, before)) ∙ (λ i. joined (first i) (second i))

  pub joined_row : (k : ℕ) → k < rows - width
      → IsJoinedRow (get_or (rows_of rows size cells) k []) (get_or (rows_of rows size cells) (k + width) []) (get_or (rows_of (rows - width) size both) k [])
  joined_row k lt =
      let first = row_many rows size cells k (omega (arith, lt)) many in (
        row_many (rows - width) size both k lt joined_many ∙ sym first,
        λ s s_in. joined_cell k s lt (omega (arith, first, s_in)),
      )

  pub next_rows : (T : Table) (i : ℕ) → 1 ≤ width → IsEach (λ lo row. IsRow T i lo (width - 1) row) rows [] (rows_of rows size cells)
      → IsEach (λ lo row. IsRow T i lo (2 * width - 1) row) (rows - width) [] (rows_of (rows - width) size both)
  next_rows T i some each = (
    rows_many (rows - width) size both,
    λ k lt. row_join T i k (2 * width - 1) (k + width) (width - 1) (width - 1) _ _ _ (omega (arith, some)) (omega arith) (omega (arith, some)) (omega (arith, some))
        (each.1 k (omega (arith, lt))) (each.1 (k + width) (omega (arith, lt))) (joined_row k lt),
  )

-- a level has as many rows as there are spans of its width
pub level_many : (T : Table) (i rows size width : ℕ) (cells : List Extremes) → IsLevel T i (record { width = width; rows = rows_of rows size cells })
    → rows ≡ last T i + 2 - width
level_many T i rows size width cells level = sym (rows_many rows size cells) ∙ level.each_row.0

-- the part from one cell on
cut_from : (at : ℕ) (cells : List Extremes) → take (length cells - at) (drop at cells) ≡ drop at cells
cut_from at cells = subst (λ (n : ℕ). take n (drop at cells) ≡ drop at cells) (length-drop at cells) (take-length (drop at cells))

-- the part before a cell
front_is : (at : ℕ) (cells : List Extremes) → slice_range cells 0 at ≡ take at cells
front_is at cells = ap (λ (n : ℕ). take n cells) (omega arith)

-- the rows that are joined for the next level: all but the last ones, and all but the first ones
module _ (rows size width : ℕ) (cells : List Extremes) (fits : width ≤ rows) (many : length cells ≡ rows * size) where
  pub back_is : slice_range cells (width * size) (rows * size) ≡ drop (width * size) cells
  back_is = subst (λ (n : ℕ). take (n - width * size) (drop (width * size) cells) ≡ drop (width * size) cells) many (cut_from (width * size) cells)

  pub cut_many : length (slice_range cells (width * size) (rows * size)) ≡ length (slice_range cells 0 ((rows - width) * size))
  cut_many =
      let few : (rows - width) * size ≤ rows * size = mul-le (rows - width) size rows size (omega arith) (omega arith) in
      let front : length (take ((rows - width) * size) cells) ≡ (rows - width) * size = length-take-le ((rows - width) * size) cells (omega (arith, few, many)) in
      let parts : (rows - width + width) * size ≡ (rows - width) * size + width * size = omega arith in
      let whole : (rows - width + width) * size ≡ rows * size = ap (λ (n : ℕ). n * size) (omega (arith, fits)) in
      let back : length (drop (width * size) cells) ≡ (rows - width) * size = length-drop (width * size) cells ∙ omega (arith, many, parts, whole) in
      ap (λ (zs : List Extremes). length zs) back_is ∙ back ∙ sym (ap (λ (zs : List Extremes). length zs) (front_is ((rows - width) * size) cells) ∙ front)

pub level_next : (T : Table) (i rows size width : ℕ) (first second cells both : List Extremes) → length cells ≡ rows * size
    → IsLevel T i (record { width = width; rows = rows_of rows size cells }) → 2 * width ≤ last T i + 1
    → first ≡ slice_range cells 0 ((rows - width) * size) → second ≡ slice_range cells (width * size) (rows * size) → IsJoinedRow first second both
    → IsLevel T i (record { width = 2 * width; rows = rows_of (rows - width) size both })
level_next T i rows size width first second cells both many level fits first_is second_is join =
    let rows_is = level_many T i rows size width cells level in
    let some = level.some_places in
    let within : width ≤ rows = omega (arith, rows_is, fits) in
    let joined_first = subst (λ (zs : List Extremes). IsJoinedRow zs second both) (first_is ∙ front_is ((rows - width) * size) cells) join in
    let joined_both = subst (λ (zs : List Extremes). IsJoinedRow (take ((rows - width) * size) cells) zs both)
    (second_is ∙ back_is rows size width cells within many) joined_first in
    let before = subst (λ (n : ℕ). IsEach (λ lo row. IsRow T i lo (width - 1) row) n [] (rows_of rows size cells)) (sym rows_is) level.each_row in
    let count : rows - width ≡ last T i + 2 - 2 * width = omega (arith, rows_is) in
    record {
      some_places = omega (arith, some);
      fits = fits;
      each_row = subst (λ (n : ℕ). IsEach (λ lo row. IsRow T i lo (2 * width - 1) row) n [] (rows_of (rows - width) size both)) count
          (next_rows rows size width cells both within many joined_both T i some before);
    }
