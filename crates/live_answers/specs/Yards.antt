-- What a yard counts.
use Rattle.std.specs.Prelude.{ℕ, zero, suc, ◌+◌, ◌==◌, List, length, Bool, if◌then◌else◌}
use Rattle.rail_model.specs.Table.{trains, last, place}
use Rattle.rail_model.specs.Yard.{Offer, Yard}
use Rattle.live_answers.specs.Seen.{Seen}
use Rattle.live_lines.specs.declared.session.Counts.{Counts}

-- how many numbers below n are chosen
abbrev pub number_of : (ℕ → Bool) → ℕ → ℕ
number_of f zero = 0
number_of f (suc n) = number_of f n + (if f n then 1 else 0)

-- whether train i is at its last place
abbrev pub is_last : Seen → ℕ → Bool
is_last v i = place v.positions i == last v.table i

-- the counts of a yard: its lines and moves, its tables, and its trains
abbrev pub counts_of : Seen → List Offer → Yard → ℕ → Counts
counts_of v tables y lines = record {
  line = lines;
  moves = y.moves;
  table = y.table;
  tried = y.tried;
  of = length tables;
  arrived = number_of (is_last v) (trains v.table);
  trains = trains v.table;
}
