use Rattle.std.proofs.Common.{◌≡◌, ℕ, List, [], get_or, sym, ap, arith}
use Rattle.std.proofs.lemmas.Grind.{common_steps}
use Rattle.std.proofs.lemmas.List.{get_or-map}
use Rattle.document_json.specs.Doc.{DocTable, doc_table}
use Rattle.document_json.proofs.FormedDoc.{no_table}
use Rattle.delayed_documents.specs.Delayed.{IsFirstStep}
use Rattle.delayed_documents.proofs.LaterTimes.{time-is}
use Rattle.delayed_documents.proofs.copying.times_under.Goals as goal

pub longer-requires-clause-fits : goal.longer-requires-clause-fits
longer-requires-clause-fits c =
    let D = c.args.doc.now in
    let t = c.args.table in
    let i = c.args.train in
    let k = c.in-Some.step in
    let at = get_or-map (λ (u : DocTable). u.times) D.tables t no_table [] c.requires.table in
    let steps : c.as_slice-steps.result.now ≡ get_or (doc_table D t).times i [] = grind (arith, common_steps, at) in
    let first : IsFirstStep D i c.args.delay.now.point.now t k = (c.requires.table, sym c.in-Some.ensures.step) in
    omega (
      arith,
      c.requires.fits k first,
      time-is D c.step_to.ensures.formed i c.requires.train c.args.delay.now.point.now t k first,
      ap (λ (l : List ℕ). get_or l k 0) steps,
    )
