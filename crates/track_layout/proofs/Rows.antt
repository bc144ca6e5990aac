-- Worked rows: the first path's layout, and each refusal once.
use Rattle.std.proofs.Common.{◌≡◌, ℕ, List, [], ◌∷◌, length, map, Ok, Err, refl, sym, ap}
use Rattle.std.specs.Prelude.{codes}
use Rattle.rail_model.specs.Turns.{first_of}
use Rattle.track_layout.specs.declared.refused.What.TheVariants.{Points, Links, Zones}
use Rattle.track_layout.specs.declared.refused.LayoutRefused.TheVariants.{TooMany, NoZone, Name, DoubleName, ZoneRange, ZoneEmpty, UnknownPoint, SelfLink}
use Rattle.track_layout.specs.Counted.{most_of}
use Rattle.track_layout.specs.Making.{layout_from}
use Rattle.track_layout.proofs.Checks.{stop}
use Rattle.track_layout.proofs.Order.{count_rows, grouped, refused_by}

-- the points A, B and C in one zone, and the links A B and B C
abbrev points : List (List ℕ × ℕ)
points = (codes "A", 0) ∷ (codes "B", 0) ∷ (codes "C", 0) ∷ []

abbrev links : List (List ℕ × List ℕ)
links = (codes "A", codes "B") ∷ (codes "B", codes "C") ∷ []

first_path : layout_from points links 1 ≡ Ok (record {
  points = record { name = codes "A"; zone = 0 } ∷ record { name = codes "B"; zone = 0 } ∷ record { name = codes "C"; zone = 0 } ∷ [];
  links = record { first = 0; second = 1 } ∷ record { first = 1; second = 2 } ∷ [];
  zones = 1;
})
unfolding layout_from
first_path = refl

-- a link given twice and in both directions is kept so
both_ways : layout_from points ((codes "A", codes "B") ∷ (codes "B", codes "A") ∷ (codes "A", codes "B") ∷ []) 1 ≡ Ok (record {
  points = record { name = codes "A"; zone = 0 } ∷ record { name = codes "B"; zone = 0 } ∷ record { name = codes "C"; zone = 0 } ∷ [];
  links = record { first = 0; second = 1 } ∷ record { first = 1; second = 0 } ∷ record { first = 0; second = 1 } ∷ [];
  zones = 1;
})
unfolding layout_from
both_ways = refl

many_points : (points : List (List ℕ × ℕ)) → length points ≡ 513 → layout_from points [] 1 ≡ Err (TooMany Points 513)
many_points points size =
    refused_by points [] 1 (TooMany Points 513) (stop (grouped points [] 1) (ap (λ n. first_of (count_rows n 0 1)) (sym size)))

many_links : (links : List (List ℕ × List ℕ)) → length links ≡ 2049 → layout_from points links 1 ≡ Err (TooMany Links 2049)
many_links links size =
    refused_by points links 1 (TooMany Links 2049) (stop (grouped points links 1) (ap (λ n. first_of (count_rows 3 n 1)) (sym size)))

greatest_numbers : map most_of (Points ∷ Links ∷ Zones ∷ []) ≡ 512 ∷ 2048 ∷ 16 ∷ []
greatest_numbers = refl

many_zones : layout_from points links 17 ≡ Err (TooMany Zones 17)
unfolding layout_from
many_zones = refl

no_zones : layout_from [] [] 0 ≡ Err NoZone
unfolding layout_from
no_zones = refl

bad_name : layout_from ((codes "A", 0) ∷ (codes "B-", 0) ∷ (codes "B-", 0) ∷ []) [] 1 ≡ Err (Name 1)
unfolding layout_from
bad_name = refl

long_name : layout_from ((codes "ABCDEFGHIJKLMNOPQ", 0) ∷ []) [] 1 ≡ Err (Name 0)
unfolding layout_from
long_name = refl

double_name : layout_from ((codes "A", 0) ∷ (codes "A", 9) ∷ (codes "C", 0) ∷ []) links 1 ≡ Err (DoubleName 0 1)
unfolding layout_from
double_name = refl

zone_range : layout_from ((codes "A", 0) ∷ (codes "B", 2) ∷ []) [] 2 ≡ Err (ZoneRange 1)
unfolding layout_from
zone_range = refl

zone_empty : layout_from points links 2 ≡ Err (ZoneEmpty 1)
unfolding layout_from
zone_empty = refl

no_points : layout_from [] [] 1 ≡ Err (ZoneEmpty 0)
unfolding layout_from
no_points = refl

unknown_point : layout_from points ((codes "A", codes "A") ∷ (codes "A", codes "D") ∷ []) 1 ≡ Err (UnknownPoint 1)
unfolding layout_from
unknown_point = refl

self_link : layout_from points ((codes "A", codes "B") ∷ (codes "B", codes "B") ∷ []) 1 ≡ Err (SelfLink 1)
unfolding layout_from
self_link = refl
