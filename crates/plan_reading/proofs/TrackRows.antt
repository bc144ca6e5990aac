-- Worked rows: which routes keep to two lines that part at the switch A and meet again at B.
use Rattle.std.proofs.Common.{◌≡◌, List, [], ◌∷◌, true, false, None, Some, String, Vec, Global, codes, lit<, refl}
use Rattle.plan_document.specs.Tracks.{goes, has_free_ends, is_no_switch, keeps}
use Rattle.plan_patterns.proofs.GivenTexts.{text_of, vec_of}

abbrev w : String Global → String Global
w s = text_of s (codes "W") (lit< tt) refl

abbrev a : String Global → String Global
a s = text_of s (codes "A") (lit< tt) refl

abbrev m : String Global → String Global
m s = text_of s (codes "Main") (lit< tt) refl

abbrev n : String Global → String Global
n s = text_of s (codes "Mian") (lit< tt) refl

abbrev l : String Global → String Global
l s = text_of s (codes "Loop") (lit< tt) refl

abbrev b : String Global → String Global
b s = text_of s (codes "B") (lit< tt) refl

abbrev lines : String Global → Vec (String Global) Global → List (Vec (String Global) Global)
lines s v = vec_of v (w s ∷ a s ∷ m s ∷ b s ∷ []) (lit< tt) ∷ vec_of v (w s ∷ a s ∷ l s ∷ b s ∷ []) (lit< tt) ∷ []

module _ (s : String Global) (v : Vec (String Global) Global) where
  -- along a line, and back
  pub along : keeps (lines s v) (a s ∷ b s ∷ []) (w s ∷ a s ∷ l s ∷ b s ∷ []) ≡ true
  along = refl

  pub back : keeps (lines s v) (a s ∷ b s ∷ []) (b s ∷ m s ∷ a s ∷ w s ∷ []) ≡ true
  back = refl

  -- a point that no line has, and one that isn't behind the one before
  pub no_point : keeps (lines s v) [] (w s ∷ a s ∷ n s ∷ b s ∷ []) ≡ false
  no_point = refl

  pub no_link : keeps (lines s v) [] (w s ∷ m s ∷ []) ≡ false
  no_link = refl

  -- from one track over A to the other: not if A is a switch
  pub turned : keeps (lines s v) [] (m s ∷ a s ∷ l s ∷ []) ≡ true
  turned = refl

  pub turned_over_a_switch : keeps (lines s v) (a s ∷ []) (m s ∷ a s ∷ l s ∷ []) ≡ false
  turned_over_a_switch = refl

  -- Both lines end at B, so a train may go on there from one to the other.
  pub from_end_to_end : goes (lines s v) (codes "Main") (codes "B") (codes "Loop") ≡ true
  from_end_to_end = refl

  pub not_to_itself : goes (lines s v) (codes "Main") (codes "B") (codes "Main") ≡ false
  not_to_itself = refl

  -- a route from W to B: neither end is at the switch A, but one is if B is a switch, or if it ends at A
  pub free_ends : has_free_ends (a s ∷ []) (w s ∷ a s ∷ l s ∷ b s ∷ []) ≡ true
  free_ends = refl

  pub ends_at_a_switch : has_free_ends (a s ∷ b s ∷ []) (w s ∷ a s ∷ l s ∷ b s ∷ []) ≡ false
  ends_at_a_switch = refl

  pub begins_at_a_switch : has_free_ends (a s ∷ []) (a s ∷ l s ∷ b s ∷ []) ≡ false
  begins_at_a_switch = refl

  -- a place that isn't there is no switch
  pub a_switch : is_no_switch (a s ∷ []) (Some (a s)) ≡ false
  a_switch = refl

  pub nowhere : is_no_switch (a s ∷ []) None ≡ true
  nowhere = refl
