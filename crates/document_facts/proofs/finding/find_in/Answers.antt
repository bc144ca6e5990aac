use Rattle.document_facts.proofs.Adding.{both}
use Rattle.document_facts.specs.Adding.{Or}
use Rattle.document_facts.specs.Facts.{Holds}
use Rattle.document_facts.specs.Kinds.{OfAfters, OfLayout, OfTables}
use Rattle.document_facts.proofs.finding.find_in.Goals as goal

pub returns : goal.returns
returns c =
    let D = c.args.doc.now in
    both (Holds D) (Or (OfLayout D) (OfTables D)) (OfAfters D) _ _ _ (both (Holds D) (OfLayout D) (OfTables D) _ _ _ c.find_layout.ensures c.find_tables.ensures) c.find_afters.ensures
