use Rattle.std.proofs.Common.{sym, subst, arith}
use Rattle.document_json.specs.Doc.{IsDoc}
use Rattle.document_json.specs.Keeps.{IsTaken}
use Rattle.document_protection.proofs.Parts.{AreApart, are_apart, count, few, some}
use Rattle.document_protection.proofs.protecting.protected.Goals as goal

pub protected_with-requires-clause-migrated : goal.protected_with-requires-clause-migrated
protected_with-requires-clause-migrated g c =
    let D = c.args.doc.now in
    let E = c.in_ok-frame.frame in
    let tables = c.deref.result.now in
    let apart : AreApart D E tables =
    are_apart D E _ tables _ c.in_ok-frame.ensures.frame c.in_ok-later.ensures.kept c.deref.ensures.value
    c.in_ok-frame.ensures.tables in
    apart.migrated

pub protected_with-requires-clause-taken : goal.protected_with-requires-clause-taken
protected_with-requires-clause-taken g c = subst IsTaken (sym c.in_ok-frame.ensures.frame) c.version-is_later.ensures.taken

pub protected_with-requires-clause-tables : goal.protected_with-requires-clause-tables
protected_with-requires-clause-tables g c =
    let D = c.args.doc.now in
    let E = c.in_ok-frame.frame in
    let tables = c.deref.result.now in
    let apart : AreApart D E tables =
    are_apart D E _ tables _ c.in_ok-frame.ensures.frame c.in_ok-later.ensures.kept c.deref.ensures.value
    c.in_ok-frame.ensures.tables in
    apart.tables_are

pub protected_with-requires-clause-some : goal.protected_with-requires-clause-some
protected_with-requires-clause-some g c =
    let D = c.args.doc.now in
    let E = c.in_ok-frame.frame in
    let tables = c.deref.result.now in
    let apart : AreApart D E tables =
    are_apart D E _ tables _ c.in_ok-frame.ensures.frame c.in_ok-later.ensures.kept c.deref.ensures.value
    c.in_ok-frame.ensures.tables in
    omega (
      arith,
      some E tables apart.tables_are (subst IsDoc (sym c.in_ok-frame.ensures.frame) c.tables_apart.ensures.formed),
      count E tables apart.tables_are,
    )

pub protected_with-requires-clause-few : goal.protected_with-requires-clause-few
protected_with-requires-clause-few g c =
    let D = c.args.doc.now in
    let E = c.in_ok-frame.frame in
    let tables = c.deref.result.now in
    let apart : AreApart D E tables =
    are_apart D E _ tables _ c.in_ok-frame.ensures.frame c.in_ok-later.ensures.kept c.deref.ensures.value
    c.in_ok-frame.ensures.tables in
    few E tables apart.tables_are (subst IsDoc (sym c.in_ok-frame.ensures.frame) c.tables_apart.ensures.formed)
