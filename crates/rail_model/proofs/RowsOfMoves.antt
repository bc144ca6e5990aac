-- Rows of states, moves and runs.
use Rattle.std.proofs.Common.{[], ◌∷◌, refl}
use Rattle.std.proofs.lemmas.Bool.Decides.{not_from_Decides}
use Rattle.rail_model.specs.State.{Legal}
use Rattle.rail_model.specs.Move.{Run, NoMove, Stuck, Live, Completes}
use Rattle.rail_model.specs.Certificate.{Accepts}
use Rattle.rail_model.proofs.Live.{completes}
use Rattle.rail_model.proofs.Sound.{live}
use Rattle.rail_model.proofs.TreeTests.{accepted}
use Rattle.rail_model.proofs.MoveTests.{Decides-legal, Decides-stuck, Decides-still, run}
use Rattle.rail_model.proofs.Samples.{corridor, open_corridor, loop, loop_tree}

-- both trains inside: legal without the section, and not with it
both_inside : Legal open_corridor (1 ∷ 1 ∷ [])
both_inside = (Decides-legal open_corridor (1 ∷ 1 ∷ [])).0 refl

one_too_many : Legal corridor (1 ∷ 1 ∷ []) → ⊥
one_too_many = not_from_Decides _ (Decides-legal corridor (1 ∷ 1 ∷ [])) refl

-- T0 is at N, and so is T1
same_point : Legal open_corridor (2 ∷ 1 ∷ []) → ⊥
same_point = not_from_Decides _ (Decides-legal open_corridor (2 ∷ 1 ∷ [])) refl

-- T0 passes the corridor before T1
passed : Run corridor (0 ∷ 0 ∷ []) (0 ∷ 0 ∷ 0 ∷ 1 ∷ 1 ∷ 1 ∷ []) (3 ∷ 3 ∷ [])
passed = run corridor (0 ∷ 0 ∷ []) (0 ∷ 0 ∷ 0 ∷ 1 ∷ 1 ∷ 1 ∷ []) refl

passed_in_part : Run corridor (0 ∷ 0 ∷ []) (0 ∷ 0 ∷ 0 ∷ 1 ∷ []) (3 ∷ 1 ∷ [])
passed_in_part = run corridor (0 ∷ 0 ∷ []) (0 ∷ 0 ∷ 0 ∷ 1 ∷ []) refl

-- two trains head on
head_on : Stuck open_corridor (1 ∷ 1 ∷ [])
head_on = (Decides-stuck open_corridor (1 ∷ 1 ∷ [])).0 refl

not_live : Live open_corridor → ⊥
not_live is_live = is_live (1 ∷ 1 ∷ []) head_on

-- arrived, and so without a move, but not stuck
ended : NoMove corridor (3 ∷ 3 ∷ [])
ended = (Decides-still corridor (3 ∷ 3 ∷ [])).0 refl

not_stuck : Stuck corridor (3 ∷ 3 ∷ []) → ⊥
not_stuck = not_from_Decides _ (Decides-stuck corridor (3 ∷ 3 ∷ [])) refl

loop_accepted : Accepts loop loop_tree
loop_accepted = accepted loop loop_tree refl

loop_live : Live loop
loop_live = live loop loop_tree loop_accepted

loop_completes : Completes loop (0 ∷ 1 ∷ [])
loop_completes = completes loop (0 ∷ 1 ∷ []) loop_live ((Decides-legal loop (0 ∷ 1 ∷ [])).0 refl)
