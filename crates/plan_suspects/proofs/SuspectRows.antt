-- Worked rows: which points are suspects where three trains go from A over Yard to C, and the third one's route has another name for Yard.
use Rattle.std.proofs.Common.{◌≡◌, [], ◌∷◌, String, Vec, Global, codes, lit<, refl}
use Rattle.plan_document.specs.declared.plan.Plan.{Plan}
use Rattle.plan_document.specs.declared.plan.TablePlan.{TablePlan}
use Rattle.plan_suspects.specs.Letters.{is_one_letter_off}
use Rattle.plan_suspects.specs.Suspects.{could_be, is_alone, lie_together, meant_at, suspects}
use Rattle.plan_patterns.proofs.GivenTexts.{text_of, vec_of}

module _ (s : String Global) (v : Vec (String Global) Global) (p : Plan) (t : TablePlan) where
  abbrev a : String Global
  a = text_of s (codes "A") (lit< tt) refl

  abbrev yard : String Global
  yard = text_of s (codes "Yard") (lit< tt) refl

  abbrev yrad : String Global
  yrad = text_of s (codes "Yrad") (lit< tt) refl

  abbrev c : String Global
  c = text_of s (codes "C") (lit< tt) refl

  abbrev low : String Global
  low = text_of s (codes "c") (lit< tt) refl

  abbrev over : String Global → String Global → Vec (String Global) Global
  over point end = vec_of v (a ∷ point ∷ end ∷ []) (lit< tt)

  -- the plan of these three routes
  abbrev plan_of : Vec (String Global) Global → Vec (String Global) Global → Vec (String Global) Global → Plan
  plan_of one two three = record p {
    lines = vec_of p.lines [] (lit< tt);
    points = vec_of p.points ((a, 0) ∷ (yard, 0) ∷ (c, 0) ∷ (yrad, 0) ∷ (low, 0) ∷ []) (lit< tt);
    tables = vec_of p.tables (record t { routes = vec_of t.routes (one ∷ two ∷ three ∷ []) (lit< tt) } ∷ []) (lit< tt);
  }

  pub mistyped : suspects (plan_of (over yard c) (over yard c) (over yrad c)) ≡ record { table = 0; train = 2; place = 1; meant = 1 } ∷ []
  unfolding is_one_letter_off could_be is_alone lie_together meant_at suspects
  mistyped = refl

  -- a point that two trains come to isn't
  pub named_twice : suspects (plan_of (over yard c) (over yrad c) (over yrad c)) ≡ record { table = 0; train = 0; place = 1; meant = 3 } ∷ []
  unfolding is_one_letter_off could_be is_alone lie_together meant_at suspects
  named_twice = refl

  -- at an end, only one that differs in case alone
  pub end_in_lower_case : suspects (plan_of (over yard c) (over yard c) (over yard low)) ≡ record { table = 0; train = 2; place = 2; meant = 2 } ∷ []
  unfolding is_one_letter_off could_be is_alone lie_together meant_at suspects
  end_in_lower_case = refl
