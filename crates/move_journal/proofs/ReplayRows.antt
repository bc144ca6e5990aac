-- Worked rows: a journal that is whole, and journals with each fault.
use Rattle.std.proofs.Common.{◌≡◌, ℕ, zero, suc, ◌+◌, ◌<◌, ◌≤◌, pos, negsuc, List, [], ◌∷◌, false, Some, None, Ok, Err, refl, sym, ◌∙◌, lit<, lit≤, arith, inl, inr}
use Rattle.std.proofs.lemmas.Int.{ints}
use Rattle.std.proofs.lemmas.Option.{same_Some}
use Rattle.rail_model.specs.declared.types.Ask.TheVariants.{Arrived as AtEnd, Full, Waits}
use Rattle.rail_model.specs.declared.types.Line.{Line}
use Rattle.rail_model.specs.declared.types.Line.TheVariants.{Move, Table as TableLine, KeptDiffers}
use Rattle.rail_model.specs.Table.{Table, trains, point, place, last}
use Rattle.rail_model.specs.State.{Legal, StandsAt}
use Rattle.rail_model.specs.Move.{Move as Step, Blocks}
use Rattle.rail_model.specs.Exchange.{DiffersAt}
use Rattle.rail_model.specs.Yard.{Offer, offer, opening}
use Rattle.rail_model.specs.Journal.{IsRight, IsDone, IsWhole, after_lines, with_counts}
use Rattle.move_journal.specs.declared.faults.BadLine.TheVariants as bad
use Rattle.move_journal.specs.Printable.{AreEnough}
use Rattle.move_journal.specs.Replays.{IsBad, HasBadLine, Replays, Lacks, IsBrokenJournal, Verifies}
use Rattle.move_journal.proofs.Samples.{names, path}

abbrev alone : List Offer
alone = record { table = path; after = 0 } ∷ []

abbrev lines : List Line
lines = Move 0 0 (Some 1) ∷ Move 0 1 (Some 2) ∷ []

legal : (k : ℕ) → k ≤ 2 → Legal path (k ∷ [])
legal k low = record { one_each = refl; in_range = in_range; apart = apart; within = λ s h. absurd (omega (arith, h)) }
  where
    in_range : (i : ℕ) → i < 1 → place (k ∷ []) i ≤ last path i
    in_range zero h = low
    in_range (suc i) h = absurd (omega arith)

    apart : (i j q : ℕ) → i < 1 → j < 1 → (i ≡ j → ⊥) → StandsAt path (k ∷ []) i q → StandsAt path (k ∷ []) j q → ⊥
    apart i j q a b ne p r = ne (omega arith)

step : (k : ℕ) → k < 2 → Step path (k ∷ []) 0 ((k + 1) ∷ [])
step k low = record { before = legal k (omega arith); train = lit< tt; step = refl; after = legal (k + 1) (omega arith); free = λ c held. absurd cc }

right : IsRight alone (opening (0 ∷ [])) lines
right = ((step 0 (lit< tt), refl, refl), ((step 1 (lit< tt), refl, refl), tt))

done : IsDone alone (after_lines (opening (0 ∷ [])) lines)
done = (arrived, λ open_table. omega (arith, open_table))
  where
    arrived : (i : ℕ) → i < 1 → place (2 ∷ []) i ≡ last path i
    arrived zero h = refl
    arrived (suc i) h = absurd (omega arith)

whole : IsWhole alone (opening (0 ∷ [])) (with_counts lines)
whole = record { right = right; done = done; moves = refl; exchanges = refl }

replayed : Replays alone (opening (0 ∷ [])) (with_counts lines) (Ok (record { yard = record { positions = 2 ∷ []; table = 0; tried = 0; moves = 2 }; lines = lines }))
replayed = record { right = right; yard = refl; lines = refl }

verified : Verifies alone (opening (0 ∷ [])) (with_counts lines) (Ok tt)
verified = whole

unfinished : Lacks alone (after_lines (opening (0 ∷ [])) (Move 0 0 (Some 1) ∷ [])) (with_counts (Move 0 0 (Some 1) ∷ [])) (bad.Unfinished 0)
unfinished = ((lit< tt, λ e. absurd (omega (arith, e))), λ j below short. absurd (omega arith))

three_moves : Lacks alone (after_lines (opening (0 ∷ [])) lines) (record { lines = lines; moves = 3; tables = 0 }) bad.Counts
three_moves = (done, λ counts. absurd (omega (arith, counts.0)))

miscounted : Verifies alone (opening (0 ∷ [])) (record { lines = lines; moves = 3; tables = 0 }) (Err bad.Counts)
miscounted = inr (right, three_moves)

no_such_train : IsBad alone (opening (0 ∷ [])) 1 (Move 1 0 (Some 1)) (bad.Place 1)
no_such_train = (refl, inl (lit≤ tt))

-- table 1 is due when all have arrived
abbrev followed : List Offer
followed = record { table = path; after = 0 } ∷ record { table = path; after = 99 } ∷ []

unanswered : Lacks followed (after_lines (opening (0 ∷ [])) lines) (with_counts lines) (bad.Open 1)
unanswered = (done.0, lit< tt, refl)

early : IsBad followed (opening (0 ∷ [])) 1 (TableLine 1) (bad.Table 1)
early = (refl, λ line. elim (line.1.0.1) [ inl late ↦ omega (arith, late) | inr arrived ↦ let h : 0 ≡ 2 = arrived 0 (lit< tt) in omega arith ])

-- a journal whose second line does what the first one did
twice : HasBadLine alone (opening (0 ∷ [])) (Move 0 0 (Some 1) ∷ Move 0 0 (Some 1) ∷ []) (bad.Place 2)
twice = (
  Move 0 0 (Some 1) ∷ [],
  Move 0 0 (Some 1),
  [],
  refl,
  ((step 0 (lit< tt), refl, refl), tt),
  (refl, inr ((λ e. absurd (omega (arith, e))), λ at. absurd (let h : Some 1 ≡ Some 0 = at.0 in cc))),
)

refused : Replays alone (opening (0 ∷ [])) (with_counts (Move 0 0 (Some 1) ∷ Move 0 0 (Some 1) ∷ [])) (Err (bad.Place 2))
refused = twice

not_whole : IsBrokenJournal alone (opening (0 ∷ [])) (with_counts (Move 0 0 (Some 1) ∷ Move 0 0 (Some 1) ∷ [])) (bad.Place 2)
not_whole = inl twice

goes_on : IsBad alone (after_lines (opening (0 ∷ [])) lines) 3 (Move 0 2 None) (bad.Move 3 AtEnd)
goes_on = (refl, (lit< tt, refl, (λ e. absurd cc), inl refl))

-- the corridor A M N B against C N M D: T0 is in the section, and T1 asks
abbrev corridor : Table
corridor = record {
  missions = record { points = 0 ∷ 1 ∷ 2 ∷ 3 ∷ []; exits = false } ∷ record { points = 4 ∷ 2 ∷ 1 ∷ 5 ∷ []; exits = false } ∷ [];
  sections = record { limit = 1; changes = (pos 0 ∷ pos 1 ∷ pos 0 ∷ negsuc 0 ∷ []) ∷ (pos 0 ∷ pos 1 ∷ pos 0 ∷ negsuc 0 ∷ []) ∷ [] } ∷ [];
  connections = [];
}

free_point : (by : ℕ) → Blocks corridor (1 ∷ 0 ∷ []) 1 by → ⊥
free_point zero h = omega (arith, same_Some {A = ℕ} 2 1 (h.2.1 ∙ sym h.2.2))
free_point (suc zero) h = h.1 refl
free_point (suc (suc by)) h = omega (arith, h.0)

full : IsBad (record { table = corridor; after = 0 } ∷ []) (opening (1 ∷ 0 ∷ [])) 1 (Move 1 4 (Some 2)) (bad.Move 1 (Full 0 1))
full = (refl, (lit< tt, (lit< tt, free_point, ((lit< tt, grind (arith, ints)), λ j below. absurd (omega arith)), refl), (λ e. absurd cc), inr (refl, refl)))

-- T0 waits at its first place until T1 has left its own
abbrev waiting : Table
waiting = record {
  missions = record { points = 0 ∷ 1 ∷ []; exits = false } ∷ record { points = 2 ∷ 3 ∷ []; exits = false } ∷ [];
  sections = [];
  connections = record { train = 0; place = 0; other = 1; reached = 1 } ∷ [];
}

no_blocker : (by : ℕ) → Blocks waiting (0 ∷ 0 ∷ []) 0 by → ⊥
no_blocker zero h = h.1 refl
no_blocker (suc zero) h = omega (arith, same_Some {A = ℕ} 1 2 (h.2.1 ∙ sym h.2.2))
no_blocker (suc (suc by)) h = omega (arith, h.0)

waits : IsBad (record { table = waiting; after = 0 } ∷ []) (opening (0 ∷ 0 ∷ [])) 1 (Move 0 0 (Some 1)) (bad.Move 1 (Waits 0))
waits = (
  refl,
  (
    lit< tt,
    (lit< tt, no_blocker, (λ s over. omega (arith, over.0)), ((record { train = 0; place = 0; other = 1; reached = 1 }, refl, refl, refl, lit< tt), λ c below. absurd (omega arith))),
    (λ e. absurd cc),
    inr (refl, refl),
  ),
)

-- a table that leads T0 on as before takes over at once
exchanges : IsRight (record { table = path; after = 0 } ∷ record { table = path; after = 0 } ∷ []) (opening (0 ∷ [])) (TableLine 1 ∷ [])
exchanges = ((refl, ((lit< tt, inl (lit≤ tt)), (agrees, λ s over. omega (arith, over.0)))), tt)
  where
    agrees : (i k : ℕ) → DiffersAt path path (0 ∷ []) i k → ⊥
    agrees zero k (within, low, inl above) = omega (arith, low, above)
    agrees zero k (within, low, inr other) = other refl
    agrees (suc i) k h = omega (arith, h.0)

-- a table by which T0 would stand at point 3 is kept out
abbrev moved_start : Table
moved_start = record { missions = record { points = 3 ∷ 1 ∷ 2 ∷ []; exits = false } ∷ []; sections = []; connections = [] }

kept : IsRight (record { table = path; after = 0 } ∷ record { table = moved_start; after = 0 } ∷ []) (opening (0 ∷ [])) (KeptDiffers 1 0 0 ∷ [])
kept = ((refl, ((lit< tt, inl (lit≤ tt)), (((0, differs), λ j below. absurd (omega arith)), (differs, λ k below. absurd (omega arith))))), tt)
  where
    differs : DiffersAt path moved_start (0 ∷ []) 0 0
    differs = (lit< tt, lit≤ tt, inr (λ e. absurd cc))

-- three names of points and one of a train are enough for the first path
enough : AreEnough names alone
enough = record { each_train = each_train; each_point = each_point }
  where
    each_train : (t : ℕ) → t < 1 → trains (offer alone t).table ≤ 1
    each_train zero h = lit≤ tt
    each_train (suc t) h = absurd (omega arith)

    each_point : (t i k q : ℕ) → t < 1 → point (offer alone t).table i k ≡ Some q → q < 3
    each_point zero zero zero q h e = let n : 0 ≡ q = cc in omega arith
    each_point zero zero (suc zero) q h e = let n : 1 ≡ q = cc in omega arith
    each_point zero zero (suc (suc zero)) q h e = let n : 2 ≡ q = cc in omega arith
    each_point zero zero (suc (suc (suc k))) q h e = absurd cc
    each_point zero (suc i) k q h e = absurd cc
    each_point (suc t) i k q h e = absurd (omega arith)
