-- The trains of a core at their places are a guard.
use Rattle.std.proofs.Common.{◌≡◌, ℕ, zero, suc, ◌+◌, ◌<◌, ◌≤◌, Bool, true, false, List, [], ◌∷◌, map, None, arith, ap, subst, cond, inl, inr}
use Rattle.std.specs.Prelude.{filter}
use Rattle.std.specs.List.{range_with_len}
use Rattle.std.proofs.lemmas.Bool.{ne_eqb}
use Rattle.rail_model.specs.Table.{Table, trains, place}
use Rattle.rail_model.specs.Checks.{below}
use Rattle.rail_model.proofs.Found.{Among, Among-map}
use Rattle.forbidden_states.specs.Forbid.{Stay, AreStays, InStays, stay_of}
use Rattle.forbidden_states.proofs.Members.{map-among, filter-among, among-filter, among-below, among-length, range-among, none-found}
use Rattle.state_core.specs.Core.{has}
use Rattle.state_core.specs.Guard.{stay_at, stays_of, CoresAreGuards}
use Rattle.state_core.proofs.Holding.{StandAlike, alike_lost}

-- stays of numbers in rising order are of different trains
filtered-stays : (n : ℕ) (p : List ℕ) (q : ℕ → Bool) (k a : ℕ) → a + k ≤ n →
    AreStays n (map (stay_at p) (filter q (range_with_len a k)))
filtered-stays n p q zero a low = tt
filtered-stays n p q (suc k) a low =
    let rest : AreStays n (map (stay_at p) (filter q (range_with_len (a + 1) k))) =
    filtered-stays n p q k (a + 1) (omega arith) in
    let fresh : stay_of (map (stay_at p) (filter q (range_with_len (a + 1) k))) a ≡ None = none-found _ _ (λ s m.
    let u = map-among (stay_at p) (filter q (range_with_len (a + 1) k)) s m in
    let v = filter-among q (range_with_len (a + 1) k) u.0 u.1 in
    let above : a + 1 ≤ u.0 = (range-among k (a + 1) u.0 v.0).0 in
    let train : u.0 ≡ s.train = ap (λ (x : Stay). x.train) u.2 in
    ne_eqb s.train a (λ e. omega (arith, e, train, above))) in
    (elim (q a) as (λ b. AreStays n
    (map (stay_at p) (cond b (a ∷ filter q (range_with_len (a + 1) k)) (filter q (range_with_len (a + 1) k))))) [
      | true ↦ (omega arith, omega arith, fresh, rest)
      | false ↦ rest
    ])

-- a train of the group has its stay
stay-among : (T : Table) (p group : List ℕ) (i : ℕ) → i < trains T → has group i ≡ true →
    Among (stays_of T p group) (stay_at p i)
stay-among T p group i lt member =
    Among-map (stay_at p) (filter (has group) (below (trains T))) i
    (among-filter (has group) (below (trains T)) i (among-below (trains T) i lt) member)

-- in a stay of one place
at_stay : (r p : List ℕ) (i : ℕ) (b : List Stay) → InStays r b → Among b (stay_at p i) → place r i ≡ place p i
at_stay r p i [] inside a = absurd a
at_stay r p i (s ∷ b) inside a = elim a [
  | inl e ↦ (let at =
      subst (λ (v : Stay). (v.range.lo ≤ place r v.train) × (place r v.train ≤ v.range.hi)) e inside.0 in
      omega (arith, at.0, at.1))
  | inr later ↦ at_stay r p i b inside.1 later
]

alike_inside : (T : Table) (p group r : List ℕ) → InStays r (stays_of T p group) → StandAlike T group p r
alike_inside T p group r inside i lt member =
    at_stay r p i (stays_of T p group) inside (stay-among T p group i lt member)

pub cores_are_guards : CoresAreGuards
cores_are_guards T p group table core = record {
  stays = filtered-stays (trains T) p (has group) (trains T) 0 (omega arith);
  some =
      among-length (stays_of T p group) _ (stay-among T p group core.unfinished.0 core.unfinished.1 core.unfinished.2);
  lost = λ r legal inside run. alike_lost T p group table core r (alike_inside T p group r inside) run;
}
