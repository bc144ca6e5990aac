-- Why the document of a header is refused.
use Rattle.std.specs.Prelude.{ℕ, List}
use Rattle.accepted_documents.specs.Accepting.{IsUnaccepted}
use Rattle.accepted_documents.specs.declared.refused.Unaccepted.TheVariants as unaccepted
use Rattle.live_header.specs.declared.refused.Refused.{Refused}
use Rattle.live_header.specs.declared.refused.Refused.TheVariants.{Document, Tree, Certificate}

-- The bytes are no document with a certificate for each table: the first refusal in the order document, trees,
-- certificates.
abbrev pub RefusesCheck : List ℕ → Refused → Type 0
RefusesCheck input (Document e) = IsUnaccepted input (unaccepted.Document e)
RefusesCheck input (Tree t e) = IsUnaccepted input (unaccepted.Tree t e)
RefusesCheck input (Certificate t bad) = IsUnaccepted input (unaccepted.Certificate t bad)
RefusesCheck input e = ⊥
