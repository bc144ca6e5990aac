use Rattle.std.proofs.Common.{ap, arith}
use Rattle.document_facts.proofs.Adding.{next, up_to}
use Rattle.document_facts.specs.Facts.{Holds}
use Rattle.document_facts.specs.Kinds.{OfConnection}
use Rattle.std.specs.Prelude.{length}
use Rattle.document_facts.proofs.finding.find_connections.Goals as goal

pub loop-connection-preserved : goal.loop-connection-preserved
loop-connection-preserved c = next (Holds c.args.doc.now) (OfConnection c.args.doc.now c.args.table) c.loop-connection.connection _ _ _ c.loop-connection.invariant c.find_connection.ensures

pub returns : goal.returns
returns c =
    let end = c.connections_of-connection-end.ensures.count in
    let past = c.loop-connection-test.false in
    let near = c.loop-connection.auto.connection-end in
    let same = ap (λ T. length T.connections) c.table_of.ensures.table in
    up_to (Holds c.args.doc.now) (OfConnection c.args.doc.now c.args.table) c.loop-connection.connection _ _ _ (omega (arith, end, past, near, same)) c.loop-connection.invariant
