-- Words of a legend that are added one after another.
use Rattle.std.proofs.Common.{◌≡◌, ◌∙◌, ℕ, ◌+◌, List, [], ◌∷◌, ◌++◌, map, flat_map, ap, sym, refl, arith, append_assoc, append-nil}
use Rattle.std.proofs.lemmas.Grind.{flat_map-append}
use Rattle.std.proofs.lemmas.List.FromFn.{map-range_with_len_more}
use Rattle.rail_model.specs.Checks.{below}
use Rattle.rail_model.specs.Table.{Table}
use Rattle.std.specs.Prelude.{String}
use Rattle.std.specs.declared.alloc.Global.{Global}
use Rattle.layout_frame.specs.Legend.{AddsLegend, Extends, section_entries}

-- the numbers below the next one
below_next : (n : ℕ) → below (n + 1) ≡ below n ++ n ∷ []
below_next n = sym (map-id (below (n + 1))) ∙ map-range_with_len_more (λ k. k) 0 n n (omega arith) ∙ ap (λ ks. ks ++ n ∷ []) (map-id (below n))
  where
    map-id : (ks : List ℕ) → map (λ k. k) ks ≡ ks
    map-id [] = refl
    map-id (k ∷ ks) = ap (λ js. k ∷ js) (map-id ks)

-- the entries of one section more
pub entries_next : (f : ℕ → List (List ℕ)) (n : ℕ) (before now next : List (List ℕ)) → now ≡ before ++ flat_map f (below n) → next ≡ now ++ f n →
    next ≡ before ++ flat_map f (below (n + 1))
entries_next f n before now next was pushed =
    let grown : flat_map f (below (n + 1)) ≡ flat_map f (below n) ++ f n =
    ap (flat_map f) (below_next n) ∙ flat_map-append f (below n) (n ∷ []) ∙ ap (λ ws. flat_map f (below n) ++ ws) (append-nil (f n)) in
    pushed ∙ ap (λ ws. ws ++ f n) was ∙ append_assoc before (flat_map f (below n)) (f n) ∙ ap (λ ws. before ++ ws) (sym grown)

-- words behind words that extend others extend those
pub extends_more : (before now next : List (List ℕ)) → Extends before now → Extends now next → Extends before next
extends_more before now next first second =
    (first.0 ++ second.0, second.1 ∙ ap (λ ws. ws ++ second.0) first.1 ∙ append_assoc before first.0 second.0)

-- entries of trains, those of sections, and those of other trains
pub legend_added : (names : List (String Global)) (T : Table) (before waits areas after : List (List ℕ)) → Extends before waits →
    areas ≡ waits ++ section_entries names T → Extends areas after → AddsLegend names T before after
legend_added names T before waits areas after first middle last = record {
  first = first.0;
  last = last.0;
  added = last.1 ∙ ap (λ ws. ws ++ last.0) (middle ∙ ap (λ ws. ws ++ section_entries names T) first.1);
}
