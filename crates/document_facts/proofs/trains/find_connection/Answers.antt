use Rattle.std.proofs.Common.{subst}
use Rattle.document_facts.proofs.Adding.{both, one}
use Rattle.document_facts.proofs.Tests.{there_at}
use Rattle.document_facts.specs.Facts.{Holds, IsConnectionOf, IsMet, IsPassed, connection}
use Rattle.document_facts.specs.declared.fact.Fact.TheVariants.{ConnectionMet, ConnectionPassed}
use Rattle.std.specs.Prelude.{◌↔◌, IsTrue}
use Rattle.document_facts.specs.Adding.{Is}
use Rattle.document_facts.proofs.trains.find_connection.Goals as goal

pub returns : goal.returns
returns c =
    let D = c.args.doc.now in
    let t = c.args.table in
    let k = c.args.connection in
    let same = c.table_of.ensures.table in
    let met = subst (λ at. IsTrue c.is_met.result ↔ IsMet D.start at) c.connection_at-at.ensures
    (subst (λ start. IsTrue c.is_met.result ↔ IsMet start c.connection_at-at.result.now) c.starts_of-start.ensures c.is_met.ensures) in
    let passed = subst (λ at. IsTrue c.is_passed.result ↔ IsPassed D.start at) c.connection_at-at.ensures
    (subst (λ start. IsTrue c.is_passed.result ↔ IsPassed start c.connection_at-at.result.now) c.starts_of-start.ensures c.is_passed.ensures) in
    both (Holds D) (Is (Holds D) (ConnectionMet t k)) (Is (Holds D) (ConnectionPassed t k)) _ _ _
    (one (Holds D) _ (ConnectionMet t k) _ _
    (there_at (IsConnectionOf D t k) (λ T. IsMet D.start (connection T k)) c.is_met.result _ _ c.requires same met) c.add_if.ensures)
    (one (Holds D) _ (ConnectionPassed t k) _ _
    (there_at (IsConnectionOf D t k) (λ T. IsPassed D.start (connection T k)) c.is_passed.result _ _ c.requires same passed) c.add_if-2.ensures)
