use Rattle.std.proofs.Common.{◌≡◌, ◌∙◌, ap, rules}
use Rattle.live_lines.specs.declared.calls.Fault.TheVariants.{Verb as NoVerb}
use Rattle.live_lines.specs.Words.{or_fault}
use Rattle.live_lines.specs.Verbs.{verbs, verb_in}
use Rattle.live_lines.proofs.Found.{verb_of_row}
use Rattle.live_lines.proofs.verbs.verb_of.Goals as goal

pub returns : goal.returns
unfolding verb_in
returns c =
    let told : c.ok_or.result ≡ or_fault NoVerb c.row_of.result = search rules in
    let found : c.row_of.result ≡ verb_in verbs c.args.word.now = simp verb_of_row at c.row_of.ensures in
    told ∙ ap (or_fault NoVerb) found
