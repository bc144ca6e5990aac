-- A tree whose nodes pass the test of nodes is accepted.
use Rattle.std.proofs.Common.{◌≡◌, List, [], ◌∷◌, true}
use Rattle.std.specs.Prelude.{All}
use Rattle.std.specs.List.{list_all}
use Rattle.std.proofs.lemmas.Bool.{and_parts}
use Rattle.std.proofs.lemmas.List.Elements.{All-nil, All-cons}
use Rattle.rail_model.specs.Table.{Table}
use Rattle.rail_model.specs.Certificate.{Tree, full_box, visits, IsGood, Accepts}
use Rattle.rail_model.specs.Checks.{is_good}
use Rattle.rail_model.proofs.Agree.{Decides-good}
use Rattle.rail_model.proofs.Visits.{Visit, IsGoodVisit, shuts}

pub all_pass : (T : Table) (vs : List Visit) → list_all (λ v. is_good T v.0 v.1) vs ≡ true → All (λ v. IsGood T v.0 v.1) vs
all_pass T [] h = All-nil (IsGoodVisit T)
all_pass T (v ∷ vs) h =
    All-cons (IsGoodVisit T) v vs ((Decides-good T v.0 v.1).0 (and_parts _ _ h).0) (all_pass T vs (and_parts _ _ h).1)

pub accepted : (T : Table) (c : Tree) → list_all (λ v. is_good T v.0 v.1) (visits (full_box T) c) ≡ true → Accepts T c
accepted T c h = shuts T c (full_box T) (all_pass T (visits (full_box T) c) h)
