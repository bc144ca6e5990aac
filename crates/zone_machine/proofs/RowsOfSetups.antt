-- A yard with names and links, of which all is true that the core asks of its setup.
use Rattle.zone_machine.proofs.Prelude.{◌≡◌, ℕ, zero, suc, ◌+◌, ◌<◌, ◌≤◌, pos, ◌≤ℤ◌, [], ◌∷◌, length, Some, refl, subst, arith, ◌≢◌, slice_get, IsTable, trains, last, offer, IsOn, IsSetup}
use Rattle.std.proofs.Common.{ℤ, lit<, lit≤}
use Rattle.std.specs.Prelude.{codes, slice_index_or}
use Rattle.std.proofs.lemmas.Int.{ints}
use Rattle.rail_model.specs.Layout.{IsLayout, Link, zone}
use Rattle.rail_model.specs.Table.{Table, IsSection, IsMission, mission, section as section_of, share}
use Rattle.rail_model.proofs.MissionTests.{Decides-mission}
use Rattle.rail_model.proofs.MoveTests.{Decides-legal}
use Rattle.rail_model.proofs.NameTests.{are_names}
use Rattle.zone_machine.proofs.Samples.{detour}

-- the table of the detour of this number
abbrev way : ℕ → Table
way t = (offer detour.tables t).table

laid_out : IsLayout detour.layout
laid_out = record {
  few_points = lit≤ tt;
  few_links = lit≤ tt;
  some_zone = lit≤ tt;
  few_zones = lit≤ tt;
  named = are_names (codes "A" ∷ codes "B" ∷ codes "C" ∷ []) refl refl;
  zoned = zoned;
  used = used;
  joined = joined;
}
  where
    zoned : (q : ℕ) → q < 3 → zone detour.layout q < 3
    zoned zero lt = lit< tt
    zoned (suc zero) lt = lit< tt
    zoned (suc (suc zero)) lt = lit< tt
    zoned (suc (suc (suc q))) lt = absurd (omega (arith, lt))

    used : (z : ℕ) → z < 3 → (q : ℕ) × (q < 3) × (zone detour.layout q ≡ z)
    used zero lt = (0, lit< tt, refl)
    used (suc zero) lt = (1, lit< tt, refl)
    used (suc (suc zero)) lt = (2, lit< tt, refl)
    used (suc (suc (suc z))) lt = absurd (omega (arith, lt))

    joined : (k : ℕ) (link : Link) → slice_get detour.layout.links k ≡ Some link → (link.first < 3) × (link.second < 3) × (link.first ≢ link.second)
    joined zero link there =
        let same : record { first = 0; second = 1 } ≡ link = cc in
        subst (λ (l : Link). (l.first < 3) × (l.second < 3) × (l.first ≢ l.second)) same (lit< tt, lit< tt, λ e. cc)
    joined (suc zero) link there =
        let same : record { first = 0; second = 2 } ≡ link = cc in
        subst (λ (l : Link). (l.first < 3) × (l.second < 3) × (l.first ≢ l.second)) same (lit< tt, lit< tt, λ e. cc)
    joined (suc (suc k)) link there = absurd (cc there)

one_mission : (t i : ℕ) → t < 2 → i < 1 → IsMission (mission (way t) i)
one_mission zero zero low lt = (Decides-mission (mission (way 0) 0)).0 refl
one_mission (suc zero) zero low lt = (Decides-mission (mission (way 1) 0)).0 refl
one_mission (suc (suc t)) i low lt = absurd (omega (arith, low))
one_mission t (suc i) low lt = absurd (omega (arith, lt))

one_section : (s : ℕ) → s < 1 → IsSection (way 1) s
one_section (suc s) lt = absurd (omega (arith, lt))
one_section zero lt = record {
  low_limit = lit≤ tt;
  one_each = refl;
  per_place = per_place;
  not_below = λ i k in_range within. (shares i k in_range within).0;
  not_above = λ i k in_range within. (shares i k in_range within).1;
}
  where
    per_place : (i : ℕ) → i < 1 → length (slice_index_or (section_of (way 1) 0).changes i []) ≡ last (way 1) i + 1
    per_place zero lt = refl
    per_place (suc i) lt = absurd (omega (arith, lt))

    between : (z : ℤ) → z ≡ pos 1 → (pos 0 ≤ℤ z) × (z ≤ℤ pos 4)
    between z is = (omega (arith, ints), omega (arith, ints))

    shares : (i k : ℕ) → i < 1 → k ≤ last (way 1) i → (pos 0 ≤ℤ share (way 1) i 0 k) × (share (way 1) i 0 k ≤ℤ pos 4)
    shares zero zero lt within = between (share (way 1) 0 0 0) refl
    shares zero (suc zero) lt within = between (share (way 1) 0 0 1) refl
    shares zero (suc (suc k)) lt within = absurd (omega (arith, within))
    shares (suc i) k lt within = absurd (omega (arith, lt))

formed : (t : ℕ) → t < 2 → IsTable (way t)
formed zero low = record {
  few_trains = lit≤ tt;
  missions = λ i lt. one_mission 0 i low lt;
  few_sections = lit≤ tt;
  sections = λ s lt. absurd (omega (arith, lt));
  few_connections = lit≤ tt;
  connections = λ c k there. absurd (cc there);
}
formed (suc zero) low = record {
  few_trains = lit≤ tt;
  missions = λ i lt. one_mission 1 i low lt;
  few_sections = lit≤ tt;
  sections = one_section;
  few_connections = lit≤ tt;
  connections = λ c k there. absurd (cc there);
}
formed (suc (suc t)) low = absurd (omega (arith, low))

on : (t : ℕ) → t < 2 → IsOn detour.layout (way t)
on zero low zero zero q is = let e : 0 ≡ q = cc in subst (λ n. n < 3) e (lit< tt)
on zero low zero (suc zero) q is = let e : 1 ≡ q = cc in subst (λ n. n < 3) e (lit< tt)
on zero low zero (suc (suc k)) q is = absurd (cc is)
on zero low (suc i) k q is = absurd (cc is)
on (suc zero) low zero zero q is = let e : 0 ≡ q = cc in subst (λ n. n < 3) e (lit< tt)
on (suc zero) low zero (suc zero) q is = let e : 2 ≡ q = cc in subst (λ n. n < 3) e (lit< tt)
on (suc zero) low zero (suc (suc k)) q is = absurd (cc is)
on (suc zero) low (suc i) k q is = absurd (cc is)
on (suc (suc t)) low i k q is = absurd (omega (arith, low))

detour_is_setup : IsSetup detour
detour_is_setup = record {
  layout = laid_out;
  tables = record { some = lit< tt; few = lit≤ tt; same = same };
  formed = formed;
  on = on;
  opening = record { in_range = lit< tt; tried = lit< tt; answered = lit≤ tt; legal = (Decides-legal (way 0) (0 ∷ [])).0 refl; moves = lit≤ tt };
}
  where
    same : (t : ℕ) → t < 2 → trains (way t) ≡ trains (way 0)
    same zero low = refl
    same (suc zero) low = refl
    same (suc (suc t)) low = absurd (omega (arith, low))
