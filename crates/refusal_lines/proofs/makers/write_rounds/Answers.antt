use Rattle.std.proofs.Common.{◌≡◌, ◌++◌, append_assoc, refl, string_bytes, OnOk, subst, ap, ◌∙◌}
use Rattle.refusal_lines.specs.Makers.{places_words, rounds_words}
use Rattle.refusal_lines.proofs.makers.write_rounds.Goals as goal

pub returns : goal.returns
returns c =
    let at = places_words c.args.at.now in
    let whole : string_bytes c.write.new.self ++ at ≡ string_bytes c.args.out.now ++ rounds_words c.args.table c.args.rounds c.args.at.now =
    ap (λ front. front ++ at) c.in_ok-write.ensures.bytes ∙ simp (append_assoc) refl in
    subst (λ bytes. OnOk c.write_places.result (string_bytes c.write_places.new.out ≡ bytes)) whole c.write_places.ensures
