-- Starts that are not legal.
use Rattle.std.specs.Prelude.{◌≡◌, ℕ, List}
use Rattle.rail_model.specs.Table.{Table}
use Rattle.legal_state.specs.Illegal.{IsIllegal}
use Rattle.legal_state.specs.declared.judges.Illegal.{Illegal}
use Rattle.document_json.specs.declared.refused.DocRefused.TheVariants.{Start}
use Rattle.ats_answers.specs.declared.failure.Failure.{Failure}
use Rattle.ats_answers.specs.declared.failure.Failure.TheVariants.{Document}

-- The state isn't legal under the table, for the first cause.
abbrev pub IsBadStart : Table → List ℕ → Failure → Type 0
IsBadStart T p e = (cause : Illegal) × (e ≡ Document (Start cause)) × IsIllegal T p cause
