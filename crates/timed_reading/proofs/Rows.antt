-- Worked rows: the texts of timed lines.
use Rattle.std.proofs.Common.{◌≡◌, List, [], ◌∷◌, Some, None, codes, refl, lit<}
use Rattle.std.proofs.lemmas.Fmt.{decimal_digit}
use Rattle.rail_model.specs.declared.types.Line.TheVariants.{Move, Table}
use Rattle.rail_model.specs.Names.{Names}
use Rattle.timed_reading.specs.declared.ticks.Timed.{Timed}
use Rattle.timed_reading.specs.Told.{last_tick, timed_text}

-- one train that goes from A to B, and leaves the layout
names : Names
names = record { points = codes "A" ∷ codes "B" ∷ []; trains = codes "T0" ∷ [] }

lines : List Timed
lines = record { tick = 3; line = Move 0 0 (Some 1) } ∷ record { tick = 3; line = Table 1 } ∷ record { tick = 5; line = Move 0 1 None } ∷ []

told : timed_text names lines ≡ codes "3 move T0 A B\n3 table 1\n5 move T0 B -\nend moves=2 tables=1 last=5\n"
unfolding lines names
told = rw (decimal_digit 1 (lit< tt), decimal_digit 2 (lit< tt), decimal_digit 3 (lit< tt), decimal_digit 5 (lit< tt)) refl

no_lines : timed_text names [] ≡ codes "end moves=0 tables=0 last=0\n"
unfolding names
no_lines = rw (decimal_digit 0 (lit< tt)) refl

last_of_all : last_tick lines ≡ 5
unfolding lines
last_of_all = refl
