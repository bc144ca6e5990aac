-- How what a sink took adds up over several writes.
use Rattle.std.proofs.Common.{ℕ, List, ◌++◌, None, Some, ap, ◌∙◌, append_assoc}
use Rattle.std.specs.Prelude.{Option}
use Rattle.ats_io.specs.Bytes.{Adds}

-- what was taken first, and then what was taken next
pub adds_both : (a b c : Option (List ℕ)) (first next : List ℕ) → Adds a b first → Adds b c next → Adds a c (first ++ next)
adds_both a b None first next p q = tt
adds_both a None (Some z) first next p q = absurd q
adds_both None (Some y) (Some z) first next p q = absurd p
adds_both (Some x) (Some y) (Some z) first next p q = q ∙ ap (λ l. l ++ next) p ∙ append_assoc x first next
