-- Sections that forbid stays are light.
use Rattle.std.proofs.Common.{◌≡◌, ℕ, ◌-◌, ◌<◌, ◌≤◌, List, [], All, length, Option, Some, None, sym, ap, subst, arith}
use Rattle.std.specs.Prelude.{pos, ◌≤ℤ◌, map, get_or}
use Rattle.std.proofs.lemmas.Int.{ints}
use Rattle.std.proofs.lemmas.List.{length-map}
use Rattle.std.proofs.lemmas.Option.{slice_get-get_or}
use Rattle.rail_model.specs.Table.{Mission, Section, limit}
use Rattle.forbidden_states.specs.Forbid.{Stay, AreStays, stay_of, forbidding, marked}
use Rattle.forbidden_states.proofs.Over.{hit-le}
use Rattle.forbidden_states.proofs.Shares.{hit_of, share-marked, section-at}
use Rattle.forbidden_states.proofs.Tables.{stays-le}
use Rattle.document_json.specs.Replaced.{IsLight}

-- a stay counts its train once at most
at_most_one : (o : Option Stay) (k : ℕ) → hit_of o k ≤ 1
at_most_one None k = omega arith
at_most_one (Some s) k = hit-le s.range k

still_one : (n : ℕ) → n ≤ 1 → pos n ≤ℤ pos 1
still_one n h = omega (arith, ints)

pub light : (M : List Mission) (all : List (List Stay)) → length M ≤ 32 → All (AreStays (length M)) all → IsLight (marked M all)
light M all few each =
    let count : length (map (forbidding M) all) ≡ length all = length-map all (forbidding M) in
    record {
      limits = λ s lt.
          let l : s < length all = omega (arith, lt, count) in
          let b : List Stay = get_or all s [] in
          let n : length b ≤ length M = stays-le (length M) b (each s [] l) in
          let low : limit (marked M all) s ≡ length b - 1 = ap (λ (c : Section). c.limit) (section-at M all s b (slice_get-get_or all s [] l)) in
          omega (arith, n, few, low);
      shares = λ s i k lt there place.
          let l : s < length all = omega (arith, lt, count) in
          let b : List Stay = get_or all s [] in
          subst (λ z. z ≤ℤ pos 1) (sym (share-marked M all s b i k (slice_get-get_or all s [] l) (each s [] l) there place))
          (still_one (hit_of (stay_of b i) k) (at_most_one (stay_of b i) k));
    }
