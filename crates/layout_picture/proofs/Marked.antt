-- Which points are marked.
use Rattle.std.proofs.Common.{◌≡◌, ℕ, ◌<◌, ◌≤◌, false, map, subst, sym, arith}
use Rattle.std.proofs.Math.ListN.{get_or-eq_default}
use Rattle.std.proofs.lemmas.List.FromFn.{get_or-map-range_with_len, length-map-range_with_len}
use Rattle.rail_model.specs.Table.{Table}
use Rattle.rail_model.specs.Checks.{below}
use Rattle.layout_picture.specs.Areas.{inside, is_inside, is_marked}

module _ (T : Table) (n s q : ℕ) where
  -- points of the layout that are in the section
  pub marked_within : q < n → is_marked (inside T n s) q ≡ is_inside T s q
  marked_within lt = get_or-map-range_with_len (is_inside T s) 0 n q q false lt (omega arith)

  -- and no others
  pub marked_beyond : n ≤ q → is_marked (inside T n s) q ≡ false
  marked_beyond far =
      get_or-eq_default (map (is_inside T s) (below n)) false (subst (λ (k : ℕ). k ≤ q) (sym (length-map-range_with_len (is_inside T s) 0 n)) far)
