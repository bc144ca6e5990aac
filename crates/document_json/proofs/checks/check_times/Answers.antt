use Rattle.std.proofs.Common.{sym}
use Rattle.rail_model.proofs.Firsts.{first_below-none}
use Rattle.document_json.specs.Tables.{bad_length}
use Rattle.document_json.proofs.TimesLemmas.{length-good}
use Rattle.document_json.proofs.checks.check_times.Goals as goal

pub check_values-requires-clause-lengths : goal.check_values-requires-clause-lengths
check_values-requires-clause-lengths c i lt =
    length-good c.args.number c.args.table.now c.args.times.now i
    (first_below-none _ (bad_length c.args.number c.args.table.now c.args.times.now) (sym c.in_ok-check_lengths.ensures) i lt)
