use Rattle.std.proofs.Common.{◌≡◌, ◌<◌, ◌∙◌, ℕ, List, length, string_bytes, arith}
use Rattle.forbidden_states.specs.Forbid.{Stay}
use Rattle.document_protection.specs.Protected.{guards_at}
use Rattle.document_protection.specs.Words.{guards_words, table_words}
use Rattle.document_protection.proofs.Naming.{guards_read, joined_more}
use Rattle.document_protection.proofs.telling.push_tables.Goals as goal

pub loop-count-preserved : goal.loop-count-preserved
loop-count-preserved c =
    let D = c.args.doc.now in
    let n = c.loop-count.count in
    let all : List (List (List Stay)) = c.args.guards.now in
    let within : n < length all = omega (arith, c.loop-count-test.true) in
    let guards : List (List Stay) = c.as_slice.result.now in
    let is : guards ≡ guards_at all n =
    c.as_slice.ensures ∙ guards_read all n c.index-guards-count.result within c.index-guards-count.is in
    let names = c.names_of-names in
    let table = c.table_of-table in
    joined_more (λ (t : ℕ). table_words D t (guards_at all t)) n (string_bytes c.args.out.now)
    (string_bytes c.loop-count.out)
    (string_bytes c.push_guards.new.out)
    (guards_words names.result.now table.result.now n guards) c.loop-count.invariant
    c.in_ok-push_guards.ensures (λ i. guards_words (names.ensures.names i) (table.ensures.table i) n (is i))
