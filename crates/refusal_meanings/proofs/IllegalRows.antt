-- Worked rows: the words of each cause, and the points of an overfull section.
use Rattle.std.proofs.Common.{◌≡◌, ◌∷◌, [], true, false, refl}
use Rattle.std.specs.Prelude.{pos, negsuc, codes}
use Rattle.std.specs.Fmt.{digits}
use Rattle.rail_model.specs.Names.{Names}
use Rattle.rail_model.specs.Table.{Table}
use Rattle.legal_state.specs.declared.judges.Illegal.TheVariants.{Length, Range, Clash, Over}
use Rattle.refusal_meanings.specs.HeldPoints.{held_points, points_words}
use Rattle.refusal_meanings.specs.IllegalWords.{cause_words, TellsIllegal}

abbrev names : Names
names = record {
  points = codes "A" ∷ codes "M" ∷ codes "B" ∷ codes "C" ∷ codes "D" ∷ codes "E" ∷ codes "F" ∷ [];
  trains = codes "IC5" ∷ codes "RB1" ∷ codes "S3" ∷ [];
}

-- IC5 goes from A by M to B, RB1 from B by M to A, and S3 from A by M out of the layout. Section 1 is what they have at M, RB1 also at its start,
-- and S3 also out of the layout.
abbrev table : Table
table = record {
  missions = record { points = 0 ∷ 1 ∷ 2 ∷ []; exits = false } ∷ record { points = 2 ∷ 1 ∷ 0 ∷ []; exits = false }
      ∷ record { points = 0 ∷ 1 ∷ []; exits = true } ∷ [];
  sections = record { limit = 9; changes = [] } ∷ record {
    limit = 2;
    changes = (pos 0 ∷ pos 1 ∷ negsuc 0 ∷ []) ∷ (pos 1 ∷ pos 1 ∷ negsuc 1 ∷ []) ∷ (pos 0 ∷ pos 1 ∷ pos 0 ∷ []) ∷ [];
  } ∷ [];
  connections = [];
}

two_given : cause_words names [] table (0 ∷ 0 ∷ []) (Length 2) ≡ codes "2 given, 3 wanted, one for each of IC5, RB1, S3"
unfolding digits
two_given = refl

past_its_last_place : cause_words names [] table (0 ∷ 0 ∷ 7 ∷ []) (Range 2) ≡ codes "S3 has no place 7, its last place is 2"
unfolding digits
past_its_last_place = refl

at_one_point : cause_words names [] table (1 ∷ 1 ∷ 0 ∷ []) (Clash 0 1 1) ≡ codes "IC5 and RB1 are both at M"
at_one_point = refl

-- M first, of IC5, then B, of RB1; M only once, and nothing of S3 out of the layout
held : held_points table 1 3 ≡ 1 ∷ 2 ∷ []
held = refl

overfull : cause_words names [] table (1 ∷ 0 ∷ 2 ∷ []) (Over 1 3 2) ≡ codes "they take 3 of section 1 (M, B), whose limit is 2"
unfolding digits
overfull = refl

whole_text : TellsIllegal names [] table (1 ∷ 1 ∷ 0 ∷ []) 2 (Clash 0 1 1)
    (codes "These places are no legal state of table 2: IC5 and RB1 are both at M.\n")
unfolding digits
whole_text = refl

-- ---- lists of points

no_points : points_words names [] ≡ []
no_points = refl

six_points : points_words names (0 ∷ 1 ∷ 2 ∷ 3 ∷ 4 ∷ 5 ∷ []) ≡ codes " (A, M, B, C, D, E)"
six_points = refl

seven_points : points_words names (6 ∷ 5 ∷ 4 ∷ 3 ∷ 2 ∷ 1 ∷ 0 ∷ []) ≡ codes " (F, E, D, C, B, M and others)"
seven_points = refl
