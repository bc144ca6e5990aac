-- What the answers to questions add.
use Rattle.std.proofs.Common.{◌≡◌, ◌≢◌, ℕ, List, [], ◌++◌, refl, ◌∙◌, ap}
use Rattle.std.proofs.lemmas.List.{append-nil}
use Rattle.rail_model.specs.declared.types.Ask.{Ask}
use Rattle.rail_model.specs.declared.types.Ask.TheVariants.{Yes, Arrived as AtEnd, Occupied, Full, Waits}
use Rattle.rail_model.specs.declared.types.Line.{Line}
use Rattle.rail_model.specs.Yard.{Offer, Yard}
use Rattle.table_exchange.specs.Steps.{after_ask}
use Rattle.plain_yard.specs.Lines.{asked_lines}

-- a train that isn't told Yes moves nothing
pub after_other : (y : Yard) (i : ℕ) (a : Ask) → a ≢ Yes → after_ask y i a ≡ y
after_other y i Yes ne = absurd (ne refl)
after_other y i AtEnd ne = refl
after_other y i (Occupied by) ne = refl
after_other y i (Full s n) ne = refl
after_other y i (Waits k) ne = refl

asked_other : (tables : List Offer) (y : Yard) (i : ℕ) (a : Ask) → a ≢ Yes → asked_lines tables y i a ≡ []
asked_other tables y i Yes ne = absurd (ne refl)
asked_other tables y i AtEnd ne = refl
asked_other tables y i (Occupied by) ne = refl
asked_other tables y i (Full s n) ne = refl
asked_other tables y i (Waits k) ne = refl

-- nor adds a line
pub adds_nothing : (tables : List Offer) (y : Yard) (i : ℕ) (a : Ask) (lines longer : List Line) → a ≢ Yes → longer ≡ lines ++ asked_lines tables y i a → longer ≡ lines
adds_nothing tables y i a lines longer ne adds = adds ∙ ap (λ (added : List Line). lines ++ added) (asked_other tables y i a ne) ∙ append-nil lines
