-- The sections of circular waits exclude them.
use Rattle.std.proofs.Common.{◌≡◌, ◌≢◌, ℕ, suc, ◌<◌, ◌≤◌, ◌==◌, List, [], ◌∷◌, map, length, Some, arith, ap, ◌∙◌, subst, sym}
use Rattle.std.specs.Prelude.{All, slice_get}
use Rattle.std.specs.Int.Signed.{<ℤ_irrefl, <ℤ-≤ℤ_trans}
use Rattle.std.proofs.lemmas.Bool.{ne_eqb}
use Rattle.std.proofs.lemmas.List.{length-map, get_or-map}
use Rattle.std.proofs.lemmas.Option.{slice_get-get_or}
use Rattle.rail_model.specs.Table.{Mission}
use Rattle.rail_model.specs.Move.{IsOver}
use Rattle.forbidden_states.specs.Forbid.{Stay, AreStays, InStays}
use Rattle.forbidden_states.proofs.Members.{map-among, none-found}
use Rattle.forbidden_states.proofs.Over.{in_over}
use Rattle.ring_sections.specs.Ring.{Pair, IsRing, pair_at}
use Rattle.ring_sections.specs.Marking.{stays, ring_table, HasRing, Excludes}
use Rattle.ring_sections.proofs.RingLists.{among-index}
use Rattle.ring_sections.proofs.StepLists.{among-All}

-- pairs of different trains are stays
pub ring-stays : (n : ℕ) (r : List Pair) → ((k : ℕ) → k < length r → (pair_at r k).0 < n) → ((j k : ℕ) → j < k → k < length r → (pair_at r j).0 ≢ (pair_at r k).0) → AreStays n (stays r)
ring-stays n [] low apart = tt
ring-stays n (w ∷ r) low apart = (
  low 0 (omega arith),
  omega arith,
  none-found (λ s. s.train == w.0) (stays r) (λ s a.
      let u = map-among (λ v. record { train = v.0; range = record { lo = v.1; hi = v.1 } }) r s a in
      let k = among-index r u.0 (0, 0) u.1 in
      let same : s.train ≡ u.0.0 = sym (ap (λ (x : Stay). x.train) u.2) in
      let here : (pair_at r k.0).0 ≡ u.0.0 = ap (λ (x : Pair). x.0) k.2 in
      ne_eqb s.train w.0 (λ e. apart 0 (suc k.0) (omega arith) (omega (arith, k.1)) (sym (here ∙ sym same ∙ e)))),
  ring-stays n r (λ k l. low (suc k) (omega arith)) (λ j k l m. apart (suc j) (suc k) (omega arith) (omega arith)),
)

-- circular waits give stays
pub rings-stays : (M : List Mission) (rs : List (List Pair)) → All (IsRing M) rs → All (AreStays (length M)) (map stays rs)
rings-stays M rs all = among-All (AreStays (length M)) (map stays rs) (λ s a.
    let u = map-among stays rs s a in
    let k = among-index rs u.0 u.0 u.1 in
    let ring : IsRing M u.0 = subst (IsRing M) k.2 (all k.0 u.0 k.1) in
    subst (AreStays (length M)) u.2 (ring-stays (length M) u.0 ring.train ring.one_each))

-- all its trains are in their ranges
ring-inside : (p : List ℕ) (r : List Pair) → HasRing p r → InStays p (stays r)
ring-inside p [] h = tt
ring-inside p (w ∷ r) h = let e = h.0 in ((omega arith, omega arith), ring-inside p r h.1)

pub excludes_rings : (M : List Mission) (rs : List (List Pair)) → All (IsRing M) rs → Excludes (ring_table M rs) rs
excludes_rings M rs all p r legal here h =
    let g : IsRing M r = subst (IsRing M) here.2 (all here.0 r here.1) in
    let b : slice_get (map stays rs) here.0 ≡ Some (stays r) =
    slice_get-get_or (map stays rs) here.0 (stays r) (omega (arith, length-map rs stays, here.1)) ∙ ap Some (get_or-map stays rs here.0 r (stays r) here.1 ∙ ap stays here.2) in
    let n : length (stays r) ≡ length r = length-map r (λ w. record { train = w.0; range = record { lo = w.1; hi = w.1 } }) in
    let s : 2 ≤ length r = g.several in
    let over : IsOver (ring_table M rs) p here.0 =
    in_over M (map stays rs) here.0 (stays r) p b (omega arith) (ring-stays (length M) r g.train g.one_each) (λ i l. legal.in_range i l) (ring-inside p r h) in
    <ℤ_irrefl (<ℤ-≤ℤ_trans over.1 (legal.within here.0 over.0))
