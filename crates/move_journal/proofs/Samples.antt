-- The first path, on which the worked rows and the tests stand: T0 goes from A over B to C.
use Rattle.std.proofs.Common.{◌≡◌, ℕ, zero, suc, ◌+◌, ◌<◌, ◌≤◌, [], ◌∷◌, get_or, false, refl, ap, codes, lit<, lit≤, arith, inl, inr}
use Rattle.std.proofs.lemmas.List.Elements.{All-nil, All-cons}
use Rattle.rail_model.specs.Table.{Table}
use Rattle.rail_model.specs.Names.{Names, IsNames, IsName, IsNameByte, AreNames}

abbrev pub names : Names
names = record { points = codes "A" ∷ codes "B" ∷ codes "C" ∷ []; trains = codes "T0" ∷ [] }

abbrev pub path : Table
path = record { missions = record { points = 0 ∷ 1 ∷ 2 ∷ []; exits = false } ∷ []; sections = []; connections = [] }

a_letter : (c : ℕ) → 65 ≤ c → c ≤ 90 → IsName (c ∷ [])
a_letter c low high = record {
  some = omega arith;
  short = omega arith;
  plain = All-cons IsNameByte c [] (inr (inl (low, high))) (All-nil IsNameByte);
}

points_are_names : AreNames names.points
points_are_names = record { each = each; apart = λ i j a b e. omega (arith, head i a, head j b, ap (λ w. get_or w 0 0) e) }
  where
    each : (i : ℕ) → i < 3 → IsName (get_or names.points i [])
    each zero h = a_letter 65 (lit≤ tt) (lit≤ tt)
    each (suc zero) h = a_letter 66 (lit≤ tt) (lit≤ tt)
    each (suc (suc zero)) h = a_letter 67 (lit≤ tt) (lit≤ tt)
    each (suc (suc (suc i))) h = absurd (omega arith)

    head : (i : ℕ) → i < 3 → get_or (get_or names.points i []) 0 0 ≡ 65 + i
    head zero h = refl
    head (suc zero) h = refl
    head (suc (suc zero)) h = refl
    head (suc (suc (suc i))) h = absurd (omega arith)

trains_are_names : AreNames names.trains
trains_are_names = record { each = each; apart = λ i j a b e. omega arith }
  where
    each : (i : ℕ) → i < 1 → IsName (get_or names.trains i [])
    each zero h = record {
      some = lit< tt;
      short = lit≤ tt;
      plain = All-cons IsNameByte 84 (48 ∷ []) (inr (inl (lit≤ tt, lit≤ tt))) (All-cons IsNameByte 48 [] (inl (lit≤ tt, lit≤ tt)) (All-nil IsNameByte));
    }
    each (suc i) h = absurd (omega arith)

pub are_names : IsNames names
are_names = record { few_points = lit≤ tt; few_trains = lit≤ tt; points = points_are_names; trains = trains_are_names }
