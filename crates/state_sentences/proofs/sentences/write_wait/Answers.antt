use Rattle.std.proofs.Common.{◌≡◌, ◌++◌, ◌∙◌, ℕ, List, append_assoc, string_bytes, OnOk, subst, ap}
use Rattle.rail_model.specs.Names.{train_name}
use Rattle.state_sentences.specs.Named.{name_at}
use Rattle.state_sentences.specs.Explanation.{until_words, wish_words}
use Rattle.state_sentences.proofs.sentences.write_wait.Goals as goal

pub returns : goal.returns
returns c =
    let N = c.args.scene.now.names.now in
    let T = c.args.scene.now.table.now in
    let before = string_bytes c.args.out.now in
    let k = c.args.connection in
    let other = c.other-other in
    let reached = c.reached-reached in
    let said = until_words c.args.number c.train-name.result.now reached.result in
    let said_is = until_words c.args.number (train_name N k.other) k.reached in
    let there = wish_words (name_at N T other.result reached.result) in
    let there_is = wish_words (name_at N T k.other k.reached) in
    let saying : said ≡ said_is =
    ap (λ (w : List ℕ). until_words c.args.number w reached.result) (c.train-name.ensures ∙ ap (train_name N) other.ensures)
    ∙ ap (λ (r : ℕ). until_words c.args.number (train_name N k.other) r) reached.ensures in
    let being : there ≡ there_is =
    ap (λ (o : ℕ). wish_words (name_at N T o reached.result)) other.ensures ∙ ap (λ (r : ℕ). wish_words (name_at N T k.other r)) reached.ensures in
    let whole : string_bytes c.write_until.new.out ++ there ≡ before ++ (said_is ++ there_is) =
    ap (λ front. front ++ there) c.in_ok-write_until.ensures ∙ append_assoc before said there
    ∙ ap (λ (w : List ℕ). before ++ (w ++ there)) saying ∙ ap (λ (w : List ℕ). before ++ (said_is ++ w)) being in
    subst (λ bytes. OnOk c.write_point.result (string_bytes c.write_point.new.out ≡ bytes)) whole c.write_point.ensures
