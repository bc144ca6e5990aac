use Rattle.std.proofs.Common.{[], string_bytes}
use Rattle.plan_input.specs.Numbered.{numbered_name}
use Rattle.plan_input.proofs.AddedNames.{seen_next}
use Rattle.plan_input.proofs.numbered.numbered.Goals as goal

pub loop-number-preserved : goal.loop-number-preserved
loop-number-preserved c =
    seen_next string_bytes (numbered_name c.args.word.now) c.loop-number.number [] c.loop-number.names.items c.push.new.self.items
    c.in_ok-numbered_name.field-0 c.loop-number.invariant c.in_ok-numbered_name.ensures c.in_ok-push.ensures.items
