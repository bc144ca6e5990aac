use Rattle.std.proofs.Common.{◌≡◌, ◌++◌, string_bytes, take}
use Rattle.std.specs.Prelude.{flat_map}
use Rattle.refusal_lines.proofs.Labels.{field_words}
use Rattle.refusal_lines.proofs.fields.write_fields.Given as goal

abbrev pub invariant-loop-field : goal.invariant-loop-field
invariant-loop-field l = string_bytes l.out ≡ string_bytes l.initial.out ++ flat_map field_words (take l.field-index l.fields)
