-- The first place of the line between a document and a journal.
use Rattle.std.proofs.Common.{ℕ, ◌+◌, ◌<◌, List, length, Some, None, arith}
use Rattle.memchr.specs.Find.{OccursAt, FindsNeedle}
use Rattle.ats_answers.specs.Journals.{mark, IsCutAt, HasNoCut}

-- a needle occurs within the bytes
within : (hay needle : List ℕ) (k : ℕ) → OccursAt hay needle k → k < length hay + 1
within hay needle k occurs = omega (arith, occurs.fits)

pub no_cut : (input : List ℕ) → FindsNeedle input mark 0 None → HasNoCut input
no_cut input found k occurs = found k (omega arith) (within input mark k occurs) occurs

pub is_cut : (input : List ℕ) (k : ℕ) → FindsNeedle input mark 0 (Some k) → IsCutAt input k
is_cut input k found = (found.1, λ j before occurs. found.0.before j (omega arith) before occurs)
