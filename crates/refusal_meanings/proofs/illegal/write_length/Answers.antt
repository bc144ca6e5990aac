use Rattle.std.proofs.Common.{◌≡◌, ◌∙◌, ◌++◌, ap, append_assoc, arith, refl, string_bytes, subst}
use Rattle.document_json.specs.Doc.{names_of, table_at}
use Rattle.rail_model.specs.Table.{trains}
use Rattle.state_sentences.specs.Explanation.{joined_below}
use Rattle.refusal_meanings.specs.IllegalWords.{listed_words}
use Rattle.refusal_meanings.proofs.illegal.write_length.Goals as goal

pub returns : goal.returns
returns c =
    let N = names_of c.args.placed.now.doc.now in
    let T = table_at c.args.placed.now.doc.now c.args.placed.now.table in
    let count : c.trains_of-trains.result ≡ trains T = c.trains_of-trains.ensures.count ∙ ap trains c.table_of.ensures.table in
    let past = c.loop-train-test.false in
    let near = c.loop-train.auto.train-end in
    let all : c.loop-train.train ≡ trains T = omega (arith, past, near, count) in
    let front = c.in_ok-write.ensures.bytes in
    subst (λ n. string_bytes c.loop-train.out ≡ string_bytes c.write.new.self ++ joined_below (listed_words N) n) all c.loop-train.invariant
    ∙ simp (front, count, append_assoc) refl
