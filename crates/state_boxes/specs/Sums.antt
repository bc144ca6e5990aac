-- What the trains' shares of a section sum to in a box, and where a train's step adds to a section.
use Rattle.std.specs.Prelude.{◌≡◌, ◌<◌, ◌+◌, ℕ, zero, suc, nat_le, ℤ, pos, ◌+ℤ◌, ◌-ℤ◌, ◌≤ℤ◌, ◌<ℤ◌, int_lt, Bool, ◌&&◌, if◌then◌else◌, List, [], ◌∷◌, ◌++◌, length}
use Rattle.std.specs.Simd.Lanes.{zip2}
use Rattle.rail_model.specs.Sums.{total_below}
use Rattle.rail_model.specs.Table.{Table, trains, last, limit, change, share}
use Rattle.rail_model.specs.Certificate.{Range, range, IsBox, greatest_share, least_count, most_with}
use Rattle.state_boxes.specs.declared.sums.Sum.{Sum}
use Rattle.state_boxes.specs.declared.extremes.Extremes.{Extremes}
use Rattle.state_boxes.specs.declared.rises.Rise.{Rise}
use Rattle.state_boxes.specs.Each.{IsEach}
use Rattle.state_boxes.specs.Extremes.{TrainShares, IsShares, AreMembers}
use Rattle.state_boxes.specs.declared.ways.Spot.{Spot}
use Rattle.state_boxes.specs.Ways.{AreWays}

abbrev pub no_sum : Sum
no_sum = record { least = pos 0; greatest = pos 0 }

-- the sums with these least and these greatest ones
abbrev pub sums_of : List ℤ → List ℤ → List Sum
sums_of least greatest = zip2 (λ l g. record { least = l; greatest = g }) least greatest

-- a section's sums after the extremes of one train have changed
abbrev pub moved : Sum → Extremes → Extremes → Sum
moved sum old new = record { least = sum.least +ℤ (new.least -ℤ old.least); greatest = sum.greatest +ℤ (new.greatest -ℤ old.greatest) }

-- the sum of the greatest shares
abbrev pub greatest_count : Table → List Range → ℕ → ℤ
greatest_count T B s = total_below (greatest_share T B s) (trains T)

-- The sums of a section in a box.
pub record IsSum (T : Table) (B : List Range) (s : ℕ) (sum : Sum) : Type 0 where
  pub least_is : sum.least ≡ least_count T B s
  pub greatest_is : sum.greatest ≡ greatest_count T B s

-- No sum is below 0 or above four for each of 32 trains.
pub record IsSmallSum (sum : Sum) : Type 0 where
  pub least_low : pos 0 ≤ℤ sum.least
  pub least_high : sum.least ≤ℤ pos 128
  pub greatest_low : pos 0 ≤ℤ sum.greatest
  pub greatest_high : sum.greatest ≤ℤ pos 128

-- Shares are 0 to 4.
pub record IsFew (e : Extremes) : Type 0 where
  pub least_low : pos 0 ≤ℤ e.least
  pub least_high : e.least ≤ℤ pos 4
  pub greatest_low : pos 0 ≤ℤ e.greatest
  pub greatest_high : e.greatest ≤ℤ pos 4

-- A box with the sums of each section.
pub record Summed : Type 0 where
  pub ranges : List Range
  pub sums : List Sum

pub record AreSums (T : Table) (S : Summed) : Type 0 where
  pub boxed : IsBox T S.ranges
  pub each_sum : IsEach (IsSum T S.ranges) (length T.sections) no_sum S.sums

-- the rises of train i at the place a: those of the sections below n to which its step from there adds, in order
abbrev pub rises_at : Table → ℕ → ℕ → ℕ → List Rise
rises_at T i a zero = []
rises_at T i a (suc s) =
    rises_at T i a s
    ++ (if int_lt (pos 0) (change T i s (a + 1)) then record { section = s; place = a; share = share T i s (a + 1); by = change T i s (a + 1) } ∷ [] else [])

-- For each place before a train's last the rises there.
abbrev pub AreSteps : Table → ℕ → List (List Rise) → Type 0
AreSteps T i rows = IsEach (λ a row. row ≡ rises_at T i a (length T.sections)) (last T i) [] rows

-- For each train its rises, place by place.
abbrev pub AreRises : Table → List (List (List Rise)) → Type 0
AreRises T rows = IsEach (AreSteps T) (trains T) [] rows

-- A rise of train i, with the train's share after it.
pub record IsRise (T : Table) (i : ℕ) (r : Rise) : Type 0 where
  pub section_in : r.section < length T.sections
  pub place_in : r.place < last T i
  pub up : pos 0 <ℤ change T i r.section (r.place + 1)
  pub by_is : r.by ≡ change T i r.section (r.place + 1)
  pub share_is : r.share ≡ share T i r.section (r.place + 1)

-- whether the section may have no room for train i's step from the place of the rise
abbrev pub is_tight : Table → List Range → ℕ → Rise → Bool
is_tight T B i r =
    (nat_le (range B i).lo r.place && nat_le r.place (range B i).hi)
    && int_lt (pos (limit T r.section)) (most_with T B r.section i (r.place + 1))

-- For each section the trains that may have a share of it.
abbrev pub AreAllMembers : Table → List (List ℕ) → Type 0
AreAllMembers T rows = IsEach (λ s row. AreMembers T s 0 (trains T) row) (length T.sections) [] rows

-- What is listed once of a table.
pub record Lists : Type 0 where
  pub ways : List (List Spot)
  pub shares : List TrainShares
  pub rises : List (List (List Rise))
  pub members : List (List ℕ)

pub record AreLists (T : Table) (L : Lists) : Type 0 where
  pub are_ways : AreWays T L.ways
  pub are_shares : IsShares T L.shares
  pub are_rises : AreRises T L.rises
  pub are_members : AreAllMembers T L.members
