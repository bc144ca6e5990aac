use Rattle.std.proofs.Common.{◌≡◌, ◌+◌, ◌<◌, ◌∙◌, ℕ, List, [], length, string_bytes, arith}
use Rattle.std.specs.Prelude.{slice_index_or}
use Rattle.forbidden_states.specs.Forbid.{Stay}
use Rattle.document_protection.specs.Words.{guard_words}
use Rattle.document_protection.proofs.Naming.{joined_more, stays_read}
use Rattle.document_protection.proofs.telling.push_guards.Goals as goal

pub loop-count-preserved : goal.loop-count-preserved
loop-count-preserved c =
    let N = c.args.told.now.names.now in
    let T = c.args.told.now.table.now in
    let n = c.loop-count.count in
    let guards : List (List Stay) = c.args.guards.now in
    let words = λ (k : ℕ). guard_words N T c.args.number (length T.sections + k) (slice_index_or guards k []) in
    let within : n < length guards = omega (arith, c.loop-count-test.true) in
    let stays : List Stay = c.as_slice.result.now in
    let is : stays ≡ slice_index_or guards n [] =
    c.as_slice.ensures ∙ stays_read guards n c.index-guards-count.result within c.index-guards-count.is in
    let own = c.sections_of-own.ensures.count in
    joined_more words n (string_bytes c.args.out.now) (string_bytes c.loop-count.out)
    (string_bytes c.push_guard.new.out)
    (guard_words N T c.args.number (c.sections_of-own.result + n) stays) c.loop-count.invariant
    c.in_ok-push_guard.ensures
    (λ i. guard_words N T c.args.number (own i + n) (is i))
