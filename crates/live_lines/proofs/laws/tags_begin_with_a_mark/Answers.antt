use Rattle.live_lines.proofs.Tags.{heard_tag}
use Rattle.live_lines.proofs.laws.tags_begin_with_a_mark.Goals as goal

pub returns : goal.returns
returns c = heard_tag
