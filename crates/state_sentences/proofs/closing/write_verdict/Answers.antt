use Rattle.std.proofs.Common.{◌≡◌, ◌++◌, ◌∙◌, append_assoc, refl, string_bytes, OnOk, subst, ap}
use Rattle.state_sentences.specs.Text.{cure_words, verdict_words}
use Rattle.state_sentences.proofs.closing.write_verdict.Goals as goal

pub returns-in_ok-write-in-Stuck : goal.returns-in_ok-write-in-Stuck
returns-in_ok-write-in-Stuck c =
    let T = c.args.scene.now.table.now in
    let p = c.args.scene.now.state.now in
    let knot = c.args.knot.now in
    let cure = cure_words T p knot in
    let whole : string_bytes c.write.new.self ++ cure ≡ string_bytes c.args.out.now ++ verdict_words T p c.args.table knot c.args.verdict =
    ap (λ front. front ++ cure) c.in_ok-write-in-Stuck.ensures.bytes ∙ simp (c.in-Stuck.is, append_assoc) refl in
    subst (λ bytes. OnOk c.write_cure.result (string_bytes c.write_cure.new.out ≡ bytes)) whole c.write_cure.ensures
