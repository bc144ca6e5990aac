use Rattle.std.proofs.Common.{◌≡◌, ◌++◌, append_assoc, string_bytes, OnOk, subst, rules, to_z, of_z, w32, ap, ◌∙◌}
use Rattle.refusal_lines.specs.Marks.{value_words, place_words}
use Rattle.refusal_lines.proofs.marks.write_change.Goals as goal

pub returns : goal.returns
returns c =
    let before = string_bytes c.args.out.now in
    let place = place_words c.args.label.now c.args.table c.args.section c.args.train c.args.place in
    let value = value_words c.args.value in
    let kept : to_z w32 (of_z w32 c.args.value) ≡ c.args.value = search rules in
    let whole : string_bytes c.write_fields.new.out ++ value ≡ before ++ (place ++ value) =
    ap (λ front. front ++ value) c.in_ok-write_fields.ensures ∙ append_assoc before place value in
    subst (λ bytes. OnOk c.write_value.result (string_bytes c.write_value.new.out ≡ bytes)) whole
    (subst (λ v. OnOk c.write_value.result (string_bytes c.write_value.new.out ≡ string_bytes c.write_fields.new.out ++ value_words v)) kept c.write_value.ensures)
