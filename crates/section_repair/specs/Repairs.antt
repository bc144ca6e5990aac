-- The rounds of a repair, and its answer.
use Rattle.std.specs.Prelude.{◌≡◌, ℕ, ◌<◌, ◌≤◌, List, [], ◌∷◌, length}
use Rattle.rail_model.specs.Table.{Table, Mission}
use Rattle.cert_maker.specs.declared.made.Made.TheVariants.{Cert as cert, Stuck as found, Spent as spent}
use Rattle.cert_maker.specs.Rule.{Makes}
use Rattle.forbidden_states.specs.Forbid.{Stay, marked}
use Rattle.section_repair.specs.declared.repaired.Repair.{Repair}
use Rattle.section_repair.specs.declared.repaired.Repair.TheVariants.{Done, Spent, Rounds, Many}
use Rattle.section_repair.specs.Core.{core}
use Rattle.section_repair.specs.Joining.{stays_of, settled}

-- the sections after a stuck state was treated
abbrev pub treated : List Mission → List (List Stay) → List ℕ → List (List Stay)
treated M S p = settled S (stays_of p (core (marked M S) p))

-- From these sections on the stuck states are the next ones that the maker finds, and treating them leads to others.
-- No further state is looked for once there are more than 64 sections.
abbrev pub Treats : List Mission → ℕ → List (List Stay) → List (List ℕ) → List (List Stay) → Type 0
Treats M budget S [] end = end ≡ S
Treats M budget S (p ∷ later) end =
    (length S ≤ 64) × Makes (marked M S) budget (found p) × Treats M budget (treated M S p) later end

-- The table has these sections, which no section and the treated states led to.
pub record IsReached (M : List Mission) (budget : ℕ) (states : List (List ℕ)) (S : List (List Stay)) (T : Table) : Type 0 where
  pub treats : Treats M budget [] states S
  pub few : length S ≤ 64
  pub table : T ≡ marked M S

-- What a repair answers, with the table that it reached: a certificate; that the budget was spent; that a further
-- state is stuck when all rounds were used; or that treating it would make more than 64 sections.
abbrev pub Repairs : List Mission → ℕ → ℕ → Repair → Type 0
Repairs M budget rounds (Done T c n) =
    (states : List (List ℕ)) × (S : List (List Stay)) × IsReached M budget states S T
    × (n ≡ length states) × (n ≤ rounds) × Makes T budget (cert c)
Repairs M budget rounds (Spent T n) =
    (states : List (List ℕ)) × (S : List (List Stay)) × IsReached M budget states S T
    × (length states ≤ rounds) × Makes T budget (spent n)
Repairs M budget rounds (Rounds T n at) =
    (states : List (List ℕ)) × (S : List (List Stay)) × IsReached M budget states S T
    × (length states ≡ rounds) × (n ≡ rounds) × Makes T budget (found at)
Repairs M budget rounds (Many T n) =
    (states : List (List ℕ)) × (S : List (List Stay)) × IsReached M budget states S T
    × (length states < rounds)
    × ((p : List ℕ) × Makes T budget (found p) × (n ≡ length (treated M S p)) × (64 < n))
