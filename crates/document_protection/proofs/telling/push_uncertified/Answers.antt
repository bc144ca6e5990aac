use Rattle.std.proofs.Common.{◌≡◌, List, ℕ, OnOk, string_bytes, subst}
use Rattle.document_protection.specs.Words.{tables_words, try_words, why_words}
use Rattle.document_protection.proofs.Naming.{three_joined}
use Rattle.document_protection.proofs.telling.push_uncertified.Goals as goal

pub returns : goal.returns
returns c =
    let D = c.args.doc.now in
    let guards = c.args.guards.now in
    let before = string_bytes c.args.out.now in
    subst (λ (bytes : List ℕ). OnOk c.push_try.result (string_bytes c.push_try.new.out ≡ bytes))
    (three_joined before (tables_words D guards) (why_words c.args.table c.args.why.now) try_words
    (string_bytes c.push_tables.new.out)
    (string_bytes c.push_why.new.out) c.in_ok-push_tables.ensures c.in_ok-push_why.ensures) c.push_try.ensures
