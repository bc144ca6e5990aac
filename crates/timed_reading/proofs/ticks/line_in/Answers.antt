use Rattle.std.proofs.Common.{rules, ◌≡◌, ◌∙◌, ◌++◌, ◌∷◌, [], List, ℕ, codes, sym, ap}
use Rattle.std.proofs.lemmas.Option.{IfSome_then}
use Rattle.move_journal.specs.Answers.{IsFrontOf}
use Rattle.timed_reading.proofs.Texts.{only_line_is}
use Rattle.timed_reading.proofs.ticks.line_in.Goals as goal

pub returns-in-Ok-Open : goal.returns-in-Ok-Open
returns-in-Ok-Open c =
    let words = c.args.words.now in
    let made : c.deref.result.now ≡ codes "1 " ++ words ++ codes "\n" =
    c.deref.ensures.value ∙ c.in_ok-push.ensures.items
    ∙ ap (λ (text : List ℕ). text ++ 10 ∷ []) (c.in_ok-extend_from_slice-2.ensures.items
    ∙ ap (λ (text : List ℕ). text ++ words) (c.in_ok-extend_from_slice.ensures.items ∙ ap (λ (text : List ℕ). text ++ codes "1 ") c.new-text.ensures.items)) in
    let lines : c.lines.result.now ≡ c.in-Ok-Open.journal.lines = search rules in
    let front : IsFrontOf c.args.names.now c.deref.result.now c.in-Ok-Open.journal = rw c.in-Ok-Open.field-0-is at c.in-Ok-Open.ensures.exact in
    IfSome_then c.only_line.result c.only_line.ensures (λ line only.
    only_line_is c.args.names.now words c.deref.result.now c.in-Ok-Open.journal line made front (sym lines ∙ only))
