use Rattle.std.proofs.Common.{◌≡◌, ◌++◌, append_assoc, refl, string_bytes, OnOk, subst, ap, ◌∙◌}
use Rattle.refusal_lines.specs.Journals.{ask_words, line_words}
use Rattle.refusal_lines.proofs.journals.write_line.Goals as goal

pub returns-in_ok-write-in-Move : goal.returns-in_ok-write-in-Move
returns-in_ok-write-in-Move c =
    let told = ask_words c.in-Move.ask in
    let whole : string_bytes c.write.new.self ++ told ≡ string_bytes c.args.out.now ++ line_words c.args.fault.now =
    ap (λ front. front ++ told) c.in_ok-write-in-Move.ensures.bytes ∙ simp (c.in-Move.is, append_assoc) refl in
    subst (λ bytes. OnOk c.write_ask.result (string_bytes c.write_ask.new.out ≡ bytes)) whole c.write_ask.ensures
