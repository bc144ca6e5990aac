-- The cells of a footprint: they are few, and the held zones guard them.
use Rattle.zone_yard.proofs.Prelude.{◌≡◌, ◌≢◌, ℕ, suc, ◌+◌, ◌-◌, ◌<◌, ◌≤◌, ◌==◌, List, [], ◌∷◌, ◌++◌, length, Bool, true, false, true≢false, cond, Option, Some, None, sym, ap, ◌∙◌, subst, ⊎_elim, arith, ne_eqb, length-append, map, Table, trains, below, offer, control, has, Cell, Point, Position, number_of, first_unknown, Footprint, claim_of, zones_of, Claim, Actor, is_cell, may_read, trains_of, Wanted, Setup, core, needs, span}
use Rattle.std.proofs.Common.{take, drop}
use Rattle.std.specs.Prelude.{filter, filter_map, not, ◌&&◌}
use Rattle.std.specs.List.{cons_option, list_any}
use Rattle.std.proofs.lemmas.List.{length-map}
use Rattle.std.proofs.lemmas.List.FromFn.{length-range_with_len}
use Rattle.std.proofs.lemmas.List.Sums.{length-filter, count_by-le-length}
use Rattle.std.proofs.Math.Seq.{take-length}
use Rattle.rail_model.specs.Table.{IsTable, point}
use Rattle.rail_model.proofs.Found.{Among}
use Rattle.zone_locks.specs.Zones.{without}
use Rattle.move_claim.specs.declared.cells.Cell.TheVariants.{Count, Table as TableCell}
use Rattle.move_claim.specs.Claims.{cells_of, firsts, next_points, sections, others, reached, is_changed, binds}
use Rattle.zone_machine.specs.World.{is_bare}
use Rattle.zone_machine.specs.Needs.{zones, cells}
use Rattle.zone_machine.specs.Sound.{IsSetup as IsCoreSetup}
use Rattle.zone_machine.proofs.Readable.{readable, map_among, split}
use Rattle.zone_yard.proofs.Lists.{second_of, both_true}
use Rattle.zone_yard.proofs.BlockEntries.{low, among}

few_filter : {A : Type 0} (p : A → Bool) (xs : List A) → length (filter p xs) ≤ length xs
few_filter p xs = omega (arith, length-filter p xs, count_by-le-length p xs)

few_without : (z : ℕ) (xs : List ℕ) → length (without z xs) ≤ length xs
few_without z [] = omega arith
few_without z (x ∷ xs) = go (z == x) (few_without z xs)
  where
    go : (b : Bool) → length (without z xs) ≤ length xs → length (cond b (without z xs) (x ∷ without z xs)) ≤ suc (length xs)
    go true le = omega arith
    go false le = omega arith

few_firsts : (xs : List ℕ) → length (firsts xs) ≤ length xs
few_firsts [] = omega arith
few_firsts (x ∷ xs) = let a = few_firsts xs in let b = few_without x (firsts xs) in omega (arith, a, b)

few_found : (f : ℕ → Option ℕ) (xs : List ℕ) → length (filter_map f xs) ≤ length xs
few_found f [] = omega arith
few_found f (x ∷ xs) = go (f x) (few_found f xs)
  where
    go : (o : Option ℕ) → length (filter_map f xs) ≤ length xs → length (cons_option o (filter_map f xs)) ≤ suc (length xs)
    go None le = omega arith
    go (Some y) le = omega arith

-- the cells after the table
abbrev pub later_cells : Table → Claim → List Cell
later_cells T c = map (λ (q : ℕ). Point q) (next_points T c) ++ map (λ (s : ℕ). Count s) (sections T c) ++ map (λ (j : ℕ). Position j) (others T c)

pub few_cells : (T : Table) (c : Claim) → IsTable T → c.steps ≤ 4 → length (later_cells T c) ≤ 100
few_cells T c formed few =
    let p = length-map (next_points T c) (λ (q : ℕ). Point q) in
    let s = length-map (sections T c) (λ (s : ℕ). Count s) in
    let o = length-map (others T c) (λ (j : ℕ). Position j) in
    let e = length-append (map (λ (q : ℕ). Point q) (next_points T c) ++ map (λ (s : ℕ). Count s) (sections T c)) (map (λ (j : ℕ). Position j) (others T c)) in
    let d = length-append (map (λ (q : ℕ). Point q) (next_points T c)) (map (λ (s : ℕ). Count s) (sections T c)) in
    let p' : length (next_points T c) ≤ 4 = (let a = few_firsts (filter_map (point T c.train) (reached c)) in let b = few_found (point T c.train) (reached c) in let n = length-range_with_len (c.place + 1) c.steps in omega (arith, a, b, n, few)) in
    let s' : length (sections T c) ≤ 64 = (let a = few_filter (λ s. list_any (is_changed T c.train s) (reached c)) (below (length T.sections)) in let n = length-range_with_len 0 (length T.sections) in let m = formed.few_sections in omega (arith, a, n, m)) in
    let o' : length (others T c) ≤ 32 = (let a = few_filter (λ j. list_any (λ k. binds c k && (k.other == j)) T.connections) (below (trains T)) in let n = length-range_with_len 0 (trains T) in let m = formed.few_trains in omega (arith, a, n, m)) in
    omega (arith, p, s, o, e, d, p', s', o')

-- none of them is the table's
pub no_table : (T : Table) (c : Claim) (d : Cell) → Among (later_cells T c) d → d ≢ TableCell
no_table T c d h = ⊎_elim
    (λ (u : Among (map (λ (q : ℕ). Point q) (next_points T c) ++ map (λ (s : ℕ). Count s) (sections T c)) d). ⊎_elim
    (λ (v : Among (map (λ (q : ℕ). Point q) (next_points T c)) d) e. let r = map_among (λ (q : ℕ). Point q) (next_points T c) d v in let bad : Point r.0 ≡ TableCell = r.2 ∙ e in absurd (cc bad))
    (λ (v : Among (map (λ (s : ℕ). Count s) (sections T c)) d) e. let r = map_among (λ (s : ℕ). Count s) (sections T c) d v in let bad : Count r.0 ≡ TableCell = r.2 ∙ e in absurd (cc bad))
    (split _ _ d u))
    (λ (v : Among (map (λ (j : ℕ). Position j) (others T c)) d) e. let r = map_among (λ (j : ℕ). Position j) (others T c) d v in let bad : Position r.0 ≡ TableCell = r.2 ∙ e in absurd (cc bad))
    (split _ _ d h)

-- who holds the zones of its footprint may read its cells
pub guarded : (S : Setup) (w : Wanted) (a : Actor) (f : Footprint) → IsCoreSetup (core S) → w.train < 32 → w.table < length S.tables → f ≡ needs S w a.position
    → a.held ≡ span f.zones 0 S.layout.zones → (c : Cell) → Among (cells_of f.table f.claim) c → (is_cell (core S) c ≡ true) × (may_read (core S) a.held c ≡ true)
guarded S w a f ok lt inside is held c h =
    let p : ℕ = w.train in
    let t : ℕ = w.table in
    let off : (p == control) ≡ false = ne_eqb p control (λ e. absurd (omega (arith, e, lt))) in
    let T : Table = (offer S.tables t).table in
    let zs : zones (core S) p a t w.steps ≡ f.zones = second_of (p == control) (below S.layout.zones) (zones_of S.layout T (claim_of T p a.position w.steps)) off ∙ ap (λ (g : Footprint). g.zones) (sym is) in
    let cs : cells (core S) p a t w.steps ≡ cells_of f.table f.claim =
    second_of (p == control) (TableCell ∷ map (λ (i : ℕ). Position i) (below (trains_of (core S)))) (cells_of T (claim_of T p a.position w.steps)) off
    ∙ ap (λ (g : Footprint). cells_of g.table g.claim) (sym is) in
    both_true (is_cell (core S) c) (may_read (core S) a.held c)
    (readable (core S) ok p a t w.steps inside a.held c
    (λ z k. let there : has z f.zones ≡ true = subst (λ l. has z l ≡ true) zs k in
    subst (λ l. has z l ≡ true) (sym held) (among f.zones z 0 S.layout.zones there (omega arith) (low z 0 S.layout.zones _ (subst (λ (g : Footprint). has z g.zones ≡ true) is there))))
    (subst (λ l. Among l c) (sym cs) h))

-- the cells after the first
pub tail_of : (x : Cell) (rest l : List Cell) → l ≡ x ∷ rest → take (length l - 1) (drop 1 l) ≡ rest
tail_of x rest l is = ap (λ (m : List Cell). take (length m - 1) (drop 1 m)) is ∙ (ap (λ n. take n rest) (let e : suc (length rest) - 1 ≡ length rest = omega arith in e) ∙ take-length rest)

pub tail_known : (rest : List Cell) (known : List (Cell × ℕ)) (t : ℕ) → number_of TableCell known ≡ Some t → first_unknown rest known ≡ None → first_unknown (TableCell ∷ rest) known ≡ None
tail_known rest known t e h = rw e h

pub some_held : (held : List ℕ) → not (is_bare held) ≡ true → held ≡ [] → ⊥
some_held held h e = true≢false (sym h ∙ ap (λ (l : List ℕ). not (is_bare l)) e)
