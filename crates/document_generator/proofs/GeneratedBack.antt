-- The members of a generated document are in range, and its text reads as them.
use Rattle.std.proofs.Common.{◌≡◌, ℕ, zero, suc, ◌+◌, ◌-◌, ◌*◌, ◌%◌, ◌==◌, ◌<◌, ◌≤◌, ◌^◌, ℤ, pos, negsuc, Bool, true, false, List, [], ◌∷◌, ◌++◌, map, length, get_or, codes, All, Ok, IsUtf8, refl, arith}
use Rattle.std.specs.Prelude.{flat_map, min, nat_lt, if◌then◌else◌}
use Rattle.std.specs.Fmt.{decimal}
use Rattle.std.specs.List.{range_with_len}
use Rattle.std.proofs.lemmas.Bool.Decides.{nat_tests}
use Rattle.std.proofs.lemmas.Fmt.{IsAscii-decimal}
use Rattle.std.proofs.lemmas.Int.{ints}
use Rattle.std.proofs.lemmas.List.Elements.{All-nil, All-cons, All-from_recursion, All-append, All-map, All-take, All-replicate, All-head, All-tail, All-weaker}
use Rattle.std.proofs.lemmas.Str.{IsUtf8-append, IsUtf8-from_ascii}
use Rattle.json.proofs.Printed.Utf8.{IsUtf8-are_ascii}
use Rattle.rail_model.specs.Checks.{below}
use Rattle.document_shapes.specs.InRange.{IsSmall, IsChange, NodeIsSmall, SectionIsSmall, TableInRange, InRange}
use Rattle.document_shapes.specs.Raw.{IsOfVersion, IsRead, members_of}
use Rattle.document_shapes.proofs.WrittenBack.{text-back}
use Rattle.document_generator.specs.Draws.{draw, next_draw, drawn_of}
use Rattle.document_generator.specs.Generated.{generated, document_of, table_of, train_name}
use Rattle.document_generator.specs.Pairs.{Pair, times_from, pair_after, loops_after, pairs_from, pair_count, all_pairs}
use Rattle.document_generator.specs.Pieces.{joint, upper, lower, zone, loop_points, points_of, loop_links, links_of, way_up, way_back, ways_of, change_in, changes_in, pair_changes, section_of, sections_of}

-- ---- lists of pieces

All-flat_map : {X Y : Type 0} (P : Y → Type 0) (f : X → List Y) (xs : List X) → All (λ x. All P (f x)) xs → All P (flat_map f xs)
All-flat_map P f [] h = All-nil P
All-flat_map P f (x ∷ xs) h =
    All-append P (f x) (flat_map f xs) (All-head (λ y. All P (f y)) x xs h) (All-flat_map P f xs (All-tail (λ y. All P (f y)) x xs h))

range-below : (a n m : ℕ) → a + n ≤ m → All (λ k. k < m) (range_with_len a n)
range-below a zero m le = All-nil (λ k. k < m)
range-below a (suc n) m le = All-cons (λ k. k < m) a (range_with_len (a + 1) n) (omega (arith, le)) (range-below (a + 1) n m (omega (arith, le)))

all-below : (n : ℕ) → All (λ k. k < n) (below n)
all-below n = range-below 0 n n (omega arith)

-- what holds at each number below n
All-below : {Y : Type 0} (P : Y → Type 0) (f : ℕ → Y) (n : ℕ) → ((k : ℕ) → k < n → P (f k)) → All P (map f (below n))
All-below P f n h = All-map P f (below n) (All-weaker (λ k. k < n) (λ k. P (f k)) h (below n) (all-below n))

All-pieces : {Y : Type 0} (P : Y → Type 0) (f : ℕ → List Y) (n : ℕ) → ((k : ℕ) → k < n → All P (f k)) → All P (flat_map f (below n))
All-pieces P f n h = All-flat_map P f (below n) (All-weaker (λ k. k < n) (λ k. All P (f k)) h (below n) (all-below n))

-- ---- pairs

-- The number and the loops are small, and so are the travel times.
record PairIsSmall (g : Pair) : Type 0 where
  number : g.number ≤ 2 ^ 32
  loops : g.loops ≤ 8
  times : All (All IsSmall) g.times

loops-small : (x : ℕ) → loops_after x ≤ 8
loops-small x = omega arith

time-small : (d : ℕ) → IsSmall (1 + d % 9)
time-small d = omega arith

times-small : (steps x : ℕ) → All IsSmall (times_from steps x)
times-small steps x = All-below IsSmall (λ k. 1 + draw (k + 1) x % 9) steps (λ k lt. time-small _)

pairs-small : (n number first left x : ℕ) → number + n ≤ 2 ^ 32 → All PairIsSmall (pairs_from n number first left x)
pairs-small zero number first left x few = All-nil PairIsSmall
pairs-small (suc n) number first left x few =
    let steps = 2 * loops_after x in
    let small : PairIsSmall (pair_after number first (min left 2) x) =
    record {
      number = omega (arith, few);
      loops = loops-small x;
      times = All-below (All IsSmall) (λ t. times_from steps (draw (t * steps) (next_draw x))) (min left 2) (λ t lt. times-small steps _);
    } in
    All-cons PairIsSmall (pair_after number first (min left 2) x) _ small (pairs-small n (number + 1) _ _ _ (omega (arith, few)))

-- ---- names

name-utf8 : (g : Pair) (letter : List ℕ) (r : ℕ) → IsUtf8 letter → PairIsSmall g → r ≤ 8 → IsUtf8 (codes "P" ++ (decimal g.number ++ (letter ++ decimal r)))
name-utf8 g letter r u small few =
    let number = small.number in
    IsUtf8-append (codes "P") _ (IsUtf8-are_ascii (codes "P") refl)
    (IsUtf8-append (decimal g.number) _ (IsUtf8-from_ascii (decimal g.number) (IsAscii-decimal g.number (omega (arith, number))))
    (IsUtf8-append letter (decimal r) u (IsUtf8-from_ascii (decimal r) (IsAscii-decimal r (omega (arith, few))))))

module _ (g : Pair) (small : PairIsSmall g) where
  joint-utf8 : (r : ℕ) → r ≤ 8 → IsUtf8 (joint g r)
  joint-utf8 r few = name-utf8 g (codes "J") r (IsUtf8-are_ascii (codes "J") refl) small few

  upper-utf8 : (r : ℕ) → r ≤ 8 → IsUtf8 (upper g r)
  upper-utf8 r few = name-utf8 g (codes "U") r (IsUtf8-are_ascii (codes "U") refl) small few

  lower-utf8 : (r : ℕ) → r ≤ 8 → IsUtf8 (lower g r)
  lower-utf8 r few = name-utf8 g (codes "L") r (IsUtf8-are_ascii (codes "L") refl) small few

  within : (r : ℕ) → r < g.loops → r + 1 ≤ 8
  within r lt = let few = small.loops in omega (arith, lt, few)

-- ---- points, links and ways

abbrev PointInRange : List ℕ × ℕ → Type 0
PointInRange p = IsUtf8 p.0 × IsSmall p.1

abbrev LinkInRange : List ℕ × List ℕ → Type 0
LinkInRange l = IsUtf8 l.0 × IsUtf8 l.1

zone-small : (q : ℕ) → IsSmall (zone q)
zone-small q = omega arith

module _ (g : Pair) (small : PairIsSmall g) where
  loop_points-in_range : (r : ℕ) → r < g.loops → All PointInRange (loop_points g r)
  loop_points-in_range r lt =
      let few = within g small r lt in
      All-from_recursion PointInRange (loop_points g r) (
        (upper-utf8 g small r (omega (arith, few)), zone-small _),
        ((lower-utf8 g small r (omega (arith, few)), zone-small _), ((joint-utf8 g small (r + 1) few, zone-small _), tt)),
      )

  points-in_range : All PointInRange (points_of g)
  points-in_range =
      All-cons PointInRange (joint g 0, zone g.first) _ (joint-utf8 g small 0 (omega arith), zone-small g.first) (All-pieces PointInRange (loop_points g) g.loops loop_points-in_range)

  links-in_range : All LinkInRange (links_of g)
  links-in_range =
      All-pieces LinkInRange (loop_links g) g.loops
      (λ r lt.
      let few = within g small r lt in
      let here = joint-utf8 g small r (omega (arith, few)) in
      let next = joint-utf8 g small (r + 1) few in
      let up = upper-utf8 g small r (omega (arith, few)) in
      let low = lower-utf8 g small r (omega (arith, few)) in
      All-from_recursion LinkInRange (loop_links g r) ((here, up), ((up, next), ((next, low), ((low, here), tt)))))

  up-utf8 : All IsUtf8 (way_up g)
  up-utf8 =
      All-append IsUtf8 (flat_map (λ r. joint g r ∷ upper g r ∷ []) (below g.loops)) (joint g g.loops ∷ [])
      (All-pieces IsUtf8 (λ r. joint g r ∷ upper g r ∷ []) g.loops
      (λ r lt.
      let few = within g small r lt in
      All-from_recursion IsUtf8 (joint g r ∷ upper g r ∷ []) (joint-utf8 g small r (omega (arith, few)), (upper-utf8 g small r (omega (arith, few)), tt))))
      (All-from_recursion IsUtf8 (joint g g.loops ∷ []) (joint-utf8 g small g.loops small.loops, tt))

  back-utf8 : All IsUtf8 (way_back g)
  back-utf8 =
      let few = small.loops in
      All-append IsUtf8 (flat_map (λ k. joint g (g.loops - k) ∷ lower g (g.loops - k - 1) ∷ []) (below g.loops)) (joint g 0 ∷ [])
      (All-pieces IsUtf8 (λ k. joint g (g.loops - k) ∷ lower g (g.loops - k - 1) ∷ []) g.loops
      (λ k lt.
      All-from_recursion IsUtf8 (joint g (g.loops - k) ∷ lower g (g.loops - k - 1) ∷ [])
      (joint-utf8 g small (g.loops - k) (omega (arith, few)), (lower-utf8 g small (g.loops - k - 1) (omega (arith, few)), tt))))
      (All-from_recursion IsUtf8 (joint g 0 ∷ []) (joint-utf8 g small 0 (omega arith), tt))

  ways-utf8 : All (All IsUtf8) (ways_of g)
  ways-utf8 = All-take (All IsUtf8) (length g.times) _ (All-from_recursion (All IsUtf8) (way_up g ∷ way_back g ∷ []) (up-utf8, (back-utf8, tt)))

-- ---- sections

either : (b : Bool) (y z : ℤ) → IsChange y → IsChange z → IsChange (if b then y else z)
either true y z h k = h
either false y z h k = k

none-in_range : IsChange (pos 0)
none-in_range = (omega (arith, ints), omega (arith, ints))

change-in_range : (g h : Pair) (k : ℕ) → IsChange (change_in g h k)
change-in_range g h k =
    let one : IsChange (pos 1) = (omega (arith, ints), omega (arith, ints)) in
    let out : IsChange (negsuc 0) = (omega (arith, ints), omega (arith, ints)) in
    either (g.number == h.number) _ (pos 0) (either (k == 1) (pos 1) _ one (either (k == 2 * h.loops) (negsuc 0) (pos 0) out none-in_range)) none-in_range

module _ (all : List Pair) (g : Pair) where
  section-small : SectionIsSmall (section_of all g)
  section-small = record {
    limit = omega arith;
    changes =
        All-flat_map (All IsChange) (pair_changes g) all
        (λ k d lt.
        let h = get_or all k d in
        All-replicate (All IsChange) (length h.times) (changes_in g h) (All-below IsChange (change_in g h) (2 * h.loops + 1) (λ j _. change-in_range g h j)));
  }

  sections-small : All SectionIsSmall (sections_of all g)
  sections-small = given (nat_lt 0 (length g.times))
    where
      given : (b : Bool) → All SectionIsSmall (if b then section_of all g ∷ [] else [])
      given true = All-from_recursion SectionIsSmall (section_of all g ∷ []) (section-small, tt)
      given false = All-nil SectionIsSmall

-- ---- the document

module _ (all : List Pair) where
  -- in version 1
  is-read : (trains : ℕ) → IsRead (document_of trains all)
  is-read trains = record {
    first = omega arith;
    last = omega arith;
    tables = All-from_recursion (IsOfVersion 1) (table_of all ∷ []) (record { exits = λ early. refl; connections = λ early. refl }, tt);
  }

  module _ (small : All PairIsSmall all) where
    -- what the pieces of each pair are, all pieces are
    each-pair : {Y : Type 0} (P : Y → Type 0) (f : Pair → List Y) → ((g : Pair) → PairIsSmall g → All P (f g)) → All P (flat_map f all)
    each-pair P f h = All-flat_map P f all (All-weaker PairIsSmall (λ g. All P (f g)) h all small)

    table-in_range : TableInRange (table_of all)
    table-in_range = record {
      missions = each-pair (All IsUtf8) ways_of ways-utf8;
      sections = each-pair SectionIsSmall (sections_of all) (λ g _. sections-small all g);
      connections = tt;
      certificate = All-nil NodeIsSmall;
      times = each-pair (All IsSmall) (λ g. g.times) (λ g h. h.times);
      after = omega arith;
    }

    in_range : (trains : ℕ) → trains ≤ 32 → InRange (document_of trains all)
    in_range trains few = record {
      points = each-pair PointInRange points_of points-in_range;
      links = each-pair LinkInRange links_of links-in_range;
      zones = omega arith;
      trains =
          All-below IsUtf8 train_name trains
          (λ i lt. IsUtf8-append (codes "T") (decimal i) (IsUtf8-are_ascii (codes "T") refl) (IsUtf8-from_ascii (decimal i) (IsAscii-decimal i (omega (arith, lt, few)))));
      start = All-replicate IsSmall trains 0 (omega arith);
      tables = All-from_recursion TableInRange (table_of all ∷ []) (table-in_range, tt);
    }

few-pairs : (trains : ℕ) → trains ≤ 32 → 0 + pair_count trains ≤ 2 ^ 32
few-pairs trains few = grind (arith, nat_tests)

pub generated-in_range : (seed trains : ℕ) → trains ≤ 32 → InRange (document_of trains (all_pairs seed trains))
generated-in_range seed trains few = in_range (all_pairs seed trains) (pairs-small (pair_count trains) 0 0 trains (drawn_of seed) (few-pairs trains few)) trains few

pub generated-read : (seed trains : ℕ) → trains ≤ 32 → members_of (generated seed trains) ≡ Ok (document_of trains (all_pairs seed trains))
generated-read seed trains few =
    let all = all_pairs seed trains in text-back (document_of trains all) (is-read all trains) (generated-in_range seed trains few)
