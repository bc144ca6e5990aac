use Rattle.std.proofs.Common.{refl, ap, ◌∙◌, take}
use Rattle.line_service.proofs.HeardLines.{take_at_most}
use Rattle.line_service.proofs.hearing.handed.Goals as goal

pub returns : goal.returns
returns c = take_at_most 257 _ _ _ c.min.ensures refl ∙ ap (take 257) c.without_return-line.ensures
