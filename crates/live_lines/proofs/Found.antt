-- The verb of a row that is found is found itself.
use Rattle.std.proofs.Common.{◌≡◌, ℕ, List, Bool, true, false, cond, Option, Some, refl}
use Rattle.std.specs.Prelude.{option_map}
use Rattle.std.specs.Borrow.{Bor}
use Rattle.live_lines.specs.declared.verbs.Verb.{Verb}

pub verb_of_row : (is : Bool) (row : Bor (List ℕ) × Verb) (later : Option (Bor (List ℕ) × Verb))
    → option_map (λ r. r.1) (cond is (Some row) later) ≡ cond is (Some row.1) (option_map (λ r. r.1) later)
verb_of_row true row later = refl
verb_of_row false row later = refl
