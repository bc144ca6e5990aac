-- Worked rows: the lines of questions, the states that lines lead to, and a round robin.
use Rattle.std.proofs.Common.{◌≡◌, ◌∷◌, [], ℕ, zero, suc, ◌+◌, ◌<◌, ◌≤◌, List, false, Some, refl, lit<, lit≤, arith}
use Rattle.rail_model.specs.declared.types.Ask.TheVariants.{Yes, Full}
use Rattle.rail_model.specs.declared.types.Line.{Line}
use Rattle.rail_model.specs.declared.types.Line.TheVariants.{Move as MoveLine, KeptDiffers}
use Rattle.rail_model.specs.declared.types.Tried.TheVariants.{Differs, Early}
use Rattle.rail_model.specs.Journal.{IsRound, IsNextMover, after_lines, with_counts}
use Rattle.rail_model.specs.Move.{Move}
use Rattle.rail_model.specs.State.{Legal}
use Rattle.rail_model.specs.Table.{Table, trains, last, place}
use Rattle.rail_model.specs.Yard.{Offer, offer, opening}
use Rattle.table_exchange.specs.Tables.{AreTables}
use Rattle.plain_yard.specs.Lines.{asked_lines, tried_lines}

-- one train with these points and no sections
abbrev alone : List ℕ → Table
alone points = record { missions = record { points = points; exits = false } ∷ []; sections = []; connections = [] }

-- the first path: T0 [A, B, C]
abbrev first_path : List Offer
first_path = record { table = alone (0 ∷ 1 ∷ 2 ∷ []); after = 0 } ∷ []

abbrev first_lines : List Line
first_lines = MoveLine 0 0 (Some 1) ∷ MoveLine 0 1 (Some 2) ∷ []

granted : asked_lines first_path (opening (0 ∷ [])) 0 Yes ≡ MoveLine 0 0 (Some 1) ∷ []
granted = refl

refused : asked_lines first_path (opening (0 ∷ [])) 0 (Full 0 1) ≡ []
refused = refl

led : after_lines (opening (0 ∷ [])) first_lines ≡ record { positions = 2 ∷ []; table = 0; tried = 0; moves = 2 }
led = refl

-- a train alone may stand at each of its places
legal_alone : (points : List ℕ) (k : ℕ) → k ≤ last (alone points) 0 → Legal (alone points) (k ∷ [])
legal_alone points k there = record {
  one_each = refl;
  in_range = in_range;
  apart = λ i j q lt_i lt_j ne at_i at_j. ne (omega (arith, lt_i, lt_j));
  within = λ s lt. absurd (omega (arith, lt));
}
  where
    in_range : (i : ℕ) → i < 1 → place (k ∷ []) i ≤ last (alone points) i
    in_range zero lt = there
    in_range (suc i) lt = absurd (omega (arith, lt))

steps : (k : ℕ) → k < 2 → Move (alone (0 ∷ 1 ∷ 2 ∷ [])) (k ∷ []) 0 ((k + 1) ∷ [])
steps k lt = record {
  before = legal_alone (0 ∷ 1 ∷ 2 ∷ []) k (omega arith);
  train = lit< tt;
  step = refl;
  after = legal_alone (0 ∷ 1 ∷ 2 ∷ []) (k + 1) (omega arith);
  free = λ c held. let none = held.1 in cc;
}

next : (p : List ℕ) → IsNextMover (alone (0 ∷ 1 ∷ 2 ∷ [])) p 0 0
next p = record { steps = 0; in_round = lit< tt; reached = refl; skipped = λ k lt. absurd (omega (arith, lt)) }

round : IsRound first_path (opening (0 ∷ [])) 0 first_lines
round = (
  (steps 0 (lit< tt), refl, refl),
  (λ due. omega (arith, due.0)),
  next (0 ∷ []),
  (
    (steps 1 (lit< tt), refl, refl),
    (λ due. omega (arith, due.0)),
    next (1 ∷ []),
    (arrived, λ more. omega (arith, more)),
  ),
)
  where
    arrived : (i : ℕ) → i < 1 → place (2 ∷ []) i ≡ last (alone (0 ∷ 1 ∷ 2 ∷ [])) i
    arrived zero lt = refl
    arrived (suc i) lt = absurd (omega (arith, lt))

-- the same point twice: T0 [A, B, A, C], and after it a table with D in place of B
abbrev twice : List Offer
twice = record { table = alone (0 ∷ 1 ∷ 0 ∷ 2 ∷ []); after = 0 } ∷ record { table = alone (0 ∷ 3 ∷ 0 ∷ 2 ∷ []); after = 2 } ∷ []

kept : tried_lines twice (record { positions = 2 ∷ []; table = 0; tried = 0; moves = 2 }) (Differs 0 1) ≡ KeptDiffers 1 0 1 ∷ []
kept = refl

early : tried_lines twice (opening (0 ∷ [])) (Early 0) ≡ []
early = refl

abbrev kept_lines : List Line
kept_lines = MoveLine 0 0 (Some 1) ∷ MoveLine 0 1 (Some 0) ∷ KeptDiffers 1 0 1 ∷ MoveLine 0 0 (Some 2) ∷ []

kept_led : after_lines (opening (0 ∷ [])) kept_lines ≡ record { positions = 3 ∷ []; table = 0; tried = 1; moves = 3 }
kept_led = refl

counted : with_counts kept_lines ≡ record { lines = kept_lines; moves = 3; tables = 0 }
counted = refl

tables : AreTables twice
tables = record { some = lit< tt; few = lit≤ tt; same = same }
  where
    same : (t : ℕ) → t < 2 → trains (offer twice t).table ≡ 1
    same zero lt = refl
    same (suc zero) lt = refl
    same (suc (suc t)) lt = absurd (omega (arith, lt))
