use Rattle.std.proofs.Common.{string_bytes}
use Rattle.refusal_lines.proofs.Labels.{all_fields}
use Rattle.refusal_lines.proofs.fields.write_fields.Goals as goal

pub returns : goal.returns
returns c =
    all_fields (string_bytes c.args.out.now) (string_bytes c.loop-field.out) c.args.fields.now c.loop-field.field-index c.loop-field-test.false c.loop-field.invariant
