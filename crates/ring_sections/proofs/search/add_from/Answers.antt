use Rattle.std.proofs.Common.{◌≡◌, ◌≤◌, ◌-◌, [], ◌∷◌, slice_index_or, refl, length, ◌∙◌, sym, arith, Some, ℕ, ◌<◌, List, subst}
use Rattle.ring_sections.specs.Ring.{Pair, next_point, IsRing}
use Rattle.ring_sections.specs.Search.{rings_from, AreUpTo, standing_at}
use Rattle.ring_sections.proofs.Adding.{adds_none}
use Rattle.ring_sections.proofs.Pruned.{none_wanted, none_from}
use Rattle.ring_sections.proofs.StepLists.{looked_up, stands-among}
use Rattle.rail_model.specs.Table.{Mission}
use Rattle.ring_sections.proofs.Begun.{next_valid, next_stands, next_fits, Decides-fits}
use Rattle.ring_sections.proofs.RingLists.{among-index}
use Rattle.ring_sections.proofs.search.add_from.Goals as goal

-- the second pair is of a later train, and at the wanted point
no_second : (M : List Mission) (w : Pair) (q i : ℕ) → next_point M w ≡ Some q → AreUpTo i (standing_at M q) → i ≤ w.0 → (later : List Pair) → IsRing M (w ∷ later) → ⊥
no_second M w q i wants up below [] ring = omega (arith, ring.several)
no_second M w q i wants up below (v ∷ later) ring =
    let above : w.0 < v.0 = ((Decides-fits (w ∷ []) v).0 (next_fits M (w ∷ []) v later (omega arith) ring)).0 in
    let k = among-index (standing_at M q) v (0, 0) (stands-among M q v (next_valid M (w ∷ []) v later (omega arith) ring) (next_stands M (w ∷ []) v later (omega arith) ring q wants)) in
    let least : v.0 ≤ i = subst (λ (u : Pair). u.0 ≤ i) k.2 (up k.0 (0, 0) k.1) in
    omega (arith, above, least, below)

none_later : (M : List Mission) (w : Pair) (n q i : ℕ) (here : List Pair) → next_point M w ≡ Some q → here ≡ standing_at M q → AreUpTo i here → i ≤ w.0 → rings_from M (w ∷ []) n ≡ []
none_later M w n q i here wants is up below =
    none_from M (w ∷ []) n (λ later short ring. no_second M w q i wants (subst (AreUpTo i) is up) below later ring)

pub returns-in_default : goal.returns-in_default
returns-in_default c =
    adds_none c.args.found.now.items (rings_from c.args.missions.now (c.args.first ∷ []) (c.args.most - 1))
    (none_wanted c.args.missions.now (c.args.first ∷ []) (omega arith) (c.args.most - 1) (sym c.next_point_of.ensures ∙ c.in_default.is)) c.requires.few

pub returns-then-latest-first : goal.returns-then-latest-first
returns-then-latest-first c =
    let M = c.args.missions.now in
    let q = c.in-Some.wanted in
    let wants : next_point M c.args.first ≡ Some q = sym c.next_point_of.ensures ∙ c.in-Some.is in
    adds_none c.args.found.now.items (rings_from M (c.args.first ∷ []) (c.args.most - 1))
    (none_later M c.args.first (c.args.most - 1) q c.latest.result (slice_index_or c.args.standing.now q []) wants
    (looked_up M (length c.args.standing.now) q c.args.standing.now _ (c.requires.points c.args.first.0 _ q wants) c.requires.standing refl)
    c.latest.ensures (omega arith))
    c.requires.few
