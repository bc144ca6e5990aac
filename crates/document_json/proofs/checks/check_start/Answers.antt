use Rattle.std.proofs.Common.{◌≡◌, sym, length, arith}
use Rattle.rail_model.specs.Table.{trains}
use Rattle.document_json.proofs.StartLemmas.{illegality-none, illegality-some, start-none, start-some}
use Rattle.document_json.proofs.checks.check_start.Goals as goal

pub returns-in-Ok-clause-refusal : goal.returns-in-Ok-clause-refusal
returns-in-Ok-clause-refusal c =
    let one_each : length c.args.start.now ≡ trains c.args.table.now = omega arith in
    sym (start-none c.args.table.now c.args.start.now one_each (illegality-none c.args.table.now c.args.start.now c.in-Ok.ensures.legal))

pub returns-in-Err-clause-refusal : goal.returns-in-Err-clause-refusal
returns-in-Err-clause-refusal c =
    let one_each : length c.args.start.now ≡ trains c.args.table.now = omega arith in
    let first = illegality-some c.args.table.now c.args.start.now c.in-Err.illegal one_each c.in-Err.ensures.illegal in
    sym (start-some c.args.table.now c.args.start.now c.in-Err.illegal one_each first)
