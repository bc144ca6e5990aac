-- A state of the yard with the lines that led to it.
use Rattle.std.specs.Prelude.{List}
use Rattle.rail_model.specs.declared.types.Line.{Line}
use Rattle.rail_model.specs.Yard.{Yard}

pub record Plain : Type 0 where
  pub yard : Yard
  pub lines : List Line
