use Rattle.std.proofs.Common.{◌≡◌, ◌∙◌, List, map, sym, ap, subst}
use Rattle.std.proofs.lemmas.Result.{IfOk-weaker}
use Rattle.move_journal.specs.Printable.{ArePrintable}
use Rattle.rail_model.specs.Names.{Names}
use Rattle.document_json.specs.Doc.{names_of}
use Rattle.timed_reading.specs.Runs.{IsToldIn, TellsRun}
use Rattle.timed_reading.specs.Told.{line_of, timed_text}
use Rattle.timed_reading.specs.declared.ticks.Timed.{Timed}
use Rattle.timed_reading.proofs.reading.run_of.Goals as goal

pub told_run-requires : goal.told_run-requires
told_run-requires c =
    subst (λ (lines : List Timed). ArePrintable (names_of c.args.doc.now) (map line_of lines)) (sym c.deref.ensures.value)
    (rw c.names_of.ensures.names at c.in_ok-lines.ensures.printable)

pub returns : goal.returns
returns c =
    let D = c.args.doc.now in
    let lines = c.deref.result.now in
    let text : c.args.journal.now ≡ timed_text (names_of D) lines =
    c.in_ok-lines.ensures.text
    ∙ ap (λ (N : Names). timed_text N c.in_ok-lines.lines.items) c.names_of.ensures.names
    ∙ ap (timed_text (names_of D)) (sym c.deref.ensures.value) in
    IfOk-weaker c.told_run.result (TellsRun D lines) (IsToldIn D c.args.journal.now) (λ run tells. record { lines = lines; tells = tells; text = text }) c.told_run.ensures
