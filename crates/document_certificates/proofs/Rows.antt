-- Worked rows: what may be said of a document without tables.
use Rattle.std.proofs.Common.{[], ◌∷◌, refl, arith}
use Rattle.rail_model.specs.Certificate.{arrived}
use Rattle.document_json.specs.Doc.{Doc}
use Rattle.document_certificates.specs.Certified.{AcceptEach, HasNone}
use Rattle.document_certificates.specs.declared.uncertified.Uncertified.TheVariants.{Memory, GaveUp}

abbrev no_tables : Doc
no_tables = record { version = 3; layout = record { points = []; links = []; zones = 1 }; trains = []; tables = []; start = [] }

-- no certificates are enough, and one is too many
none_needed : AcceptEach no_tables 1 []
none_needed = record { one_each = refl; accepted = λ t lt. absurd (omega (arith, lt)) }

one_too_many : AcceptEach no_tables 1 (arrived ∷ []) → ⊥
one_too_many each = let same = each.one_each in omega (arith, same)

-- no table of it is given up
no_table_left : HasNone no_tables 5 (GaveUp 0 5) → ⊥
no_table_left fails = let lt = fails.0 in omega (arith, lt)

memory_may_run_out : HasNone no_tables 5 Memory
memory_may_run_out = tt
