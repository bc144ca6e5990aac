-- Worked rows: the corridor A M N B against C N M D, where T0 was granted M and has reported only A.
use Rattle.std.proofs.Common.{◌≡◌, ◌∷◌, [], refl, lit<}
use Rattle.std.proofs.lemmas.List.Elements.{All-cons, All-nil}
use Rattle.rail_model.proofs.Samples.{corridor, waiting}
use Rattle.live_yard.specs.declared.told.Told.TheVariants.{Away, Clearing, Full, Occupied, Waits}
use Rattle.live_yard.specs.Wants.{HasWant}
use Rattle.live_answers.specs.Causes.{chosen, counts_in, in_the_way, still_counts}
use Rattle.live_answers.specs.Seen.{Seen, told_at}
use Rattle.live_answers.specs.Waiting.{Joins, blockers}

abbrev seen : Seen
seen = record { table = corridor; positions = 1 ∷ 0 ∷ []; reported = 0 ∷ 0 ∷ [] }

-- T0 counts in the section, and T1 doesn't
counts : chosen (counts_in seen 0) 2 ≡ 0 ∷ []
counts = refl

full : in_the_way seen (Full 0 1) ≡ 0 ∷ []
full = refl

-- no train has left the section without saying so
none_still_counts : chosen (still_counts seen 0) 2 ≡ []
none_still_counts = refl

-- T0 has left it at B, and has reported only N
still_counted : in_the_way (record { table = corridor; positions = 3 ∷ 0 ∷ []; reported = 2 ∷ 0 ∷ [] })
    (Clearing 0 1) ≡ 0 ∷ []
still_counted = refl

connection : in_the_way (record { table = waiting; positions = 0 ∷ 0 ∷ []; reported = 0 ∷ 0 ∷ [] }) (Waits 0) ≡ 1 ∷ []
connection = refl

nobody : in_the_way seen Away ≡ []
nobody = refl

told : told_at (Away ∷ Occupied 0 ∷ []) 1 ≡ Occupied 0
told = refl

blocked : blockers seen (Away ∷ Occupied 0 ∷ []) 1 ≡ 0 ∷ []
blocked = refl

-- T1 stands in the row already, and T0 joins it
joins : Joins (1 ∷ []) (1 ∷ 0 ∷ []) (1 ∷ 0 ∷ [])
joins = record {
  added = 0 ∷ [];
  grows = refl;
  from = All-cons (HasWant (1 ∷ 0 ∷ [])) 0 [] (1, lit< tt, refl) (All-nil (HasWant (1 ∷ 0 ∷ [])));
  all = All-cons (HasWant (1 ∷ 0 ∷ [])) 1 (0 ∷ []) (0, lit< tt, refl)
      (All-cons (HasWant (1 ∷ 0 ∷ [])) 0 [] (1, lit< tt, refl) (All-nil (HasWant (1 ∷ 0 ∷ []))));
}
