use Rattle.std.proofs.Common.{◌∙◌, ap}
use Rattle.std.proofs.lemmas.Result.{on_ok_weaker}
use Rattle.std.proofs.lemmas.List.{map-append}
use Rattle.layout_frame.specs.Spots.{words_of}
use Rattle.layout_frame.proofs.legend.push_stripes.Goals as goal

pub returns : goal.returns
returns c = on_ok_weaker c.push_painted.result (λ is. (_, ap words_of is ∙ map-append _ _ _)) c.push_painted.ensures
