-- What one question changes in the yard.
use Rattle.std.specs.Prelude.{ℕ}
use Rattle.rail_model.specs.declared.types.Ask.{Ask}
use Rattle.rail_model.specs.declared.types.Ask.TheVariants.{Yes}
use Rattle.rail_model.specs.declared.types.Tried.{Tried}
use Rattle.rail_model.specs.declared.types.Tried.TheVariants.{Exchanged, Differs, Over}
use Rattle.rail_model.specs.Yard.{Yard, moved, exchanged, kept_out}

-- the state after a train's question: a train that is answered Yes has moved
abbrev pub after_ask : Yard → ℕ → Ask → Yard
after_ask y i Yes = moved y i
after_ask y i _ = y

-- the state after the control's question: a table that was due has its answer
abbrev pub after_tried : Yard → Tried → Yard
after_tried y Exchanged = exchanged y
after_tried y (Differs i k) = kept_out y
after_tried y (Over s n) = kept_out y
after_tried y _ = y
