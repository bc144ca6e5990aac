use Rattle.document_facts.proofs.Adding.{both}
use Rattle.document_facts.specs.Adding.{Or}
use Rattle.document_facts.specs.Facts.{Holds}
use Rattle.document_facts.specs.Kinds.{OfConnections, OfSections, OfTrains}
use Rattle.document_facts.proofs.finding.find_table.Goals as goal

pub returns : goal.returns
returns c =
    let D = c.args.doc.now in
    both (Holds D) (Or (OfTrains D c.args.table) (OfSections D c.args.table)) (OfConnections D c.args.table) _ _ _ (both (Holds D) (OfTrains D c.args.table) (OfSections D c.args.table) _ _ _ c.find_trains.ensures c.find_sections.ensures) c.find_connections.ensures
