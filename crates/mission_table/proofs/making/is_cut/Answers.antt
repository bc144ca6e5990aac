use Rattle.std.proofs.Common.{◌∙◌, sym, ap, not}
use Rattle.mission_table.specs.Ways.{is_cut}
use Rattle.mission_table.proofs.making.is_cut.Goals as goal

pub returns-in-Some : goal.returns-in-Some
returns-in-Some c = ap not c.are_linked.ensures ∙ sym (ap (λ before. is_cut c.args.tracks.now before c.args.point) c.in-Some.is)
