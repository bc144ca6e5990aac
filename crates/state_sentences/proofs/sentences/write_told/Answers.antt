use Rattle.std.proofs.Common.{◌≡◌, ◌++◌, ◌∙◌, ◌+◌, ℕ, append_assoc, string_bytes, OnOk, subst, ap}
use Rattle.state_sentences.specs.Explanation.{next_words, reason_words, told_words}
use Rattle.state_sentences.proofs.Verdicts.{words_on_the_way}
use Rattle.state_sentences.proofs.sentences.write_told.Goals as goal

pub returns : goal.returns
returns c =
    let N = c.args.scene.now.names.now in
    let S = c.args.sections.now in
    let T = c.args.scene.now.table.now in
    let p = c.args.scene.now.state.now in
    let before = string_bytes c.args.out.now in
    let next = λ (k : ℕ). next_words N T c.args.train (k + 1) in
    let reason = reason_words N S T p c.args.train c.args.told in
    let whole : string_bytes c.write_next.new.out ++ reason ≡ before ++ told_words N S T p c.args.train c.args.told =
    ap (λ front. front ++ reason) c.in_ok-write_next.ensures ∙ append_assoc before (next c.place.result) reason
    ∙ ap (λ (k : ℕ). before ++ (next k ++ reason)) c.place.ensures.place
    ∙ ap (λ words. before ++ words) (words_on_the_way N S T p c.args.train c.args.told c.in_default.not-Arrived) in
    subst (λ bytes. OnOk c.write_reason.result (string_bytes c.write_reason.new.out ≡ bytes)) whole c.write_reason.ensures
