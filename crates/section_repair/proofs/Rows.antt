-- The worked rows: what a repair does in a long corridor and head-on.
use Rattle.std.specs.Prelude.{◌≡◌, ℕ, List, [], ◌∷◌, false, true, pos, negsuc, Some, None, refl}
use Rattle.rail_model.specs.Table.{Mission}
use Rattle.rail_model.specs.Certificate.{full_box}
use Rattle.cert_maker.specs.Rule.{first_stuck}
use Rattle.cert_maker.proofs.Grown.{grown}
use Rattle.forbidden_states.specs.Forbid.{Stay, marked}
use Rattle.section_repair.specs.Core.{waits_for, closure, core}
use Rattle.section_repair.specs.Joining.{joins, union}
use Rattle.section_repair.specs.Repairs.{treated}
use Rattle.section_repair.proofs.Samples.{stay, long, head_on, follower}

-- the first stuck state that the maker finds
abbrev stuck_in : List Mission → List (List Stay) → List ℕ → Type 0
stuck_in M S p = first_stuck (grown 12 (marked M S) (full_box (marked M S))) ≡ Some p

-- a long corridor: the third stuck state's section joins the first's
abbrev first : List Stay
first = stay 0 1 1 ∷ stay 1 2 2 ∷ []

abbrev second : List Stay
second = stay 0 2 2 ∷ stay 1 1 1 ∷ []

abbrev third : List Stay
third = stay 0 1 1 ∷ stay 1 1 1 ∷ []

abbrev first_and_third : List Stay
first_and_third = stay 0 1 1 ∷ stay 1 1 2 ∷ []

long-stuck_1 : stuck_in long [] (1 ∷ 2 ∷ [])
long-stuck_1 = refl

long-waits_0 : waits_for (marked long []) (1 ∷ 2 ∷ []) 0 1 ≡ true
long-waits_0 = refl

long-core_1 : core (marked long []) (1 ∷ 2 ∷ []) ≡ 0 ∷ 1 ∷ []
long-core_1 = refl

long-treated_1 : treated long [] (1 ∷ 2 ∷ []) ≡ first ∷ []
long-treated_1 = refl

long-stuck_2 : stuck_in long (first ∷ []) (2 ∷ 1 ∷ [])
long-stuck_2 = refl

long-treated_2 : treated long (first ∷ []) (2 ∷ 1 ∷ []) ≡ first ∷ second ∷ []
long-treated_2 = refl

-- each train waits for the other's share of a section
long-stuck_3 : stuck_in long (first ∷ second ∷ []) (1 ∷ 1 ∷ [])
long-stuck_3 = refl

long-joins : joins first third ≡ true
long-joins = refl

-- it would join the second too, but the first comes first
long-joins_too : joins second third ≡ true
long-joins_too = refl

long-union : union first third ≡ first_and_third
long-union = refl

long-treated_3 : treated long (first ∷ second ∷ []) (1 ∷ 1 ∷ []) ≡ second ∷ first_and_third ∷ []
long-treated_3 = refl

long-done : first_stuck (grown 12 (marked long (second ∷ first_and_third ∷ [])) (full_box (marked long (second ∷ first_and_third ∷ [])))) ≡ None
long-done = refl

long-sections : (marked long (second ∷ first_and_third ∷ [])).sections
    ≡ (record { limit = 1; changes = (pos 0 ∷ pos 0 ∷ pos 1 ∷ negsuc 0 ∷ pos 0 ∷ []) ∷ (pos 0 ∷ pos 1 ∷ negsuc 0 ∷ pos 0 ∷ pos 0 ∷ []) ∷ [] })
    ∷ (record { limit = 1; changes = (pos 0 ∷ pos 1 ∷ negsuc 0 ∷ pos 0 ∷ pos 0 ∷ []) ∷ (pos 0 ∷ pos 1 ∷ pos 0 ∷ negsuc 0 ∷ pos 0 ∷ []) ∷ [] }) ∷ []
long-sections = refl

-- sections with a gap between them don't join
gap-joins_not : joins (stay 0 1 1 ∷ stay 1 1 1 ∷ []) (stay 0 1 1 ∷ stay 1 3 3 ∷ []) ≡ false
gap-joins_not = refl

-- head-on: the section forbids the start
head_on-treated : treated head_on [] (0 ∷ 0 ∷ []) ≡ (stay 0 0 0 ∷ stay 1 0 0 ∷ []) ∷ []
head_on-treated = refl

head_on-sections : (marked head_on ((stay 0 0 0 ∷ stay 1 0 0 ∷ []) ∷ [])).sections
    ≡ (record { limit = 1; changes = (pos 1 ∷ negsuc 0 ∷ []) ∷ (pos 1 ∷ negsuc 0 ∷ []) ∷ [] }) ∷ []
head_on-sections = refl

-- a train that waits for two that wait for each other is in no core
follower-closure : closure (marked follower []) (0 ∷ 0 ∷ 0 ∷ []) 0 ≡ 0 ∷ 1 ∷ 2 ∷ []
follower-closure = refl

follower-core : core (marked follower []) (0 ∷ 0 ∷ 0 ∷ []) ≡ 1 ∷ 2 ∷ []
follower-core = refl
