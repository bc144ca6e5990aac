use Rattle.std.proofs.Common.{◌≡◌, ◌∙◌, sym, ap, string_bytes, position, bytes_eq}
use Rattle.rail_model.proofs.Places.{position-map}
use Rattle.track_layout.proofs.numbers.Numbers.number.Goals.{After-get_index_of}
use Rattle.track_layout.proofs.numbers.Numbers.number.Goals as goal

-- the set is asked for the place of the name
asked : (c : After-get_index_of) → c.get_index_of.result ≡ position (bytes_eq c.args.name.now) c.args.self.now
asked c =
    let test = bytes_eq c.args.name.now in
    c.get_index_of.ensures.index ∙ sym (position-map test string_bytes c.self.inside.names.keys) ∙ ap (position test) c.self.view_is

pub returns-in_err-number : goal.returns-in_err-number
returns-in_err-number c = c.from_residual.ensures ∙ sym c.in_err-number.was ∙ asked (goal.at.returns-in_err-number c).After-get_index_of

pub returns : goal.returns
returns c = sym c.in_ok-number.was ∙ asked (goal.at.returns c).After-get_index_of
