use Rattle.std.proofs.Common.{◌∙◌, sym, not, string_bytes}
use Rattle.rail_model.specs.Naming.{is_name}
use Rattle.rail_model.proofs.Places.{position-map}
use Rattle.rail_model.proofs.naming.first_bad_name.Goals as goal

pub returns : goal.returns
returns c = c.place_of_bad_name.ensures ∙ sym (position-map (λ name. not (is_name name)) string_bytes c.args.names.now)
