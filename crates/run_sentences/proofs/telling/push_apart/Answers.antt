use Rattle.std.proofs.Common.{◌≡◌, ◌∙◌, ◌++◌, ap, append_assoc, codes, string_bytes, sym}
use Rattle.std.proofs.lemmas.Result.{on_ok_weaker}
use Rattle.run_sentences.proofs.telling.push_apart.Goals as goal

pub returns : goal.returns
returns c =
    let first = c.train-first.result.now in
    let second = c.train-second.result.now in
    let later = codes " are never both at these places.\n" in
    let words : ((first ++ codes " and ") ++ second) ++ later ≡ first ++ (codes " and " ++ (second ++ later)) =
    append_assoc (first ++ codes " and ") second later ∙ append_assoc first (codes " and ") (second ++ later) in
    rw (sym c.train-first.ensures, sym c.train-second.ensures)
    (on_ok_weaker c.write.result
    (λ bytes. bytes ∙ ap (λ ws. string_bytes c.args.out.now ++ (codes "No run from the start leads there, since " ++ ws)) (sym words))
    c.write.ensures.bytes)
