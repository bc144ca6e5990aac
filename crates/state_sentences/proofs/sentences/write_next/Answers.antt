use Rattle.std.proofs.Common.{◌≡◌, ◌++◌, List, ℕ, string_bytes, OnOk, subst}
use Rattle.state_sentences.specs.Explanation.{wants_words}
use Rattle.state_sentences.proofs.sentences.write_next.Goals as goal

pub returns : goal.returns
returns c =
    subst (λ (wish : List ℕ). OnOk c.write_wish.result (string_bytes c.write_wish.new.out ≡ string_bytes c.args.out.now ++ wants_words wish))
    c.wish_of-wish.ensures c.write_wish.ensures
