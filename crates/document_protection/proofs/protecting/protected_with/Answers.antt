use Rattle.std.proofs.Common.{◌<◌, ℕ, List, length, sym, subst, arith}
use Rattle.std.specs.Prelude.{IfErr}
use Rattle.std.proofs.lemmas.List.{get_or_read}
use Rattle.std.proofs.lemmas.Result.{err_from_is_err_and}
use Rattle.legal_state.specs.Illegal.{IsIllegal}
use Rattle.rail_model.specs.Certificate.{Tree}
use Rattle.rail_model.specs.State.{Legal}
use Rattle.rail_model.specs.Table.{Table}
use Rattle.document_json.specs.Doc.{IsDoc}
use Rattle.document_json.specs.Keeps.{IsTaken}
use Rattle.document_json.specs.Replaced.{new_table, replaced}
use Rattle.document_protection.specs.Protected.{ArePartsOf, AreProtected, HasNone}
use Rattle.document_protection.proofs.Parts.{are_protected, none, none_for}
use Rattle.document_protection.proofs.Parts.{replaced_is_taken, start_forbidden}
use Rattle.document_json.proofs.MoreSections.{version_back}
use Rattle.document_protection.proofs.protecting.protected_with.Goals as goal

pub returns-in_err-parts-clause-none : goal.returns-in_err-parts-clause-none
returns-in_err-parts-clause-none g c =
    let D = c.args.doc.now in
    let e = c.in_err-parts.field-0.0 in
    let got = err_from_is_err_and c.from_residual.result c.from_residual.ensures.1 in
    subst (λ r. IfErr r (HasNone D)) (sym got.1)
    (subst (HasNone D) (sym got.2)
    (none_for c.args.later.now c.args.tables.now c.requires.tables D e c.requires.migrated c.in_err-parts.ensures.none))

pub write_replaced-requires-clause-taken : goal.write_replaced-requires-clause-taken
write_replaced-requires-clause-taken g c =
    let D = c.args.doc.now in
    let E = c.args.later.now in
    let tables = c.args.tables.now in
    let is : IsDoc E = c.start.ensures.formed in
    let made = c.in_ok-parts.field-0 in
    let found : ArePartsOf tables made.guards.items made.parts.items = c.in_ok-parts.ensures.parts in
    let within : 0 < length made.parts.items = omega (arith, found.one_each, c.requires.some) in
    let first = get_or_read made.parts.items 0 c.index.result.now within c.index.ensures none in
    let start : Legal (new_table made.parts.items 0) E.start =
    subst (Legal (new_table made.parts.items 0)) c.start.ensures.start
    (subst (λ (p : Table × Tree). Legal p.0 c.start.result.now) first c.in-Ok.ensures.legal) in
    subst (λ (ps : List (Table × Tree)). IsTaken (replaced E ps)) (sym c.deref.ensures.value)
    (replaced_is_taken E tables made.guards.items made.parts.items is c.requires.tables found c.requires.taken
    (version_back D E c.requires.migrated) start)

pub returns-in-Ok-clause-made : goal.returns-in-Ok-clause-made
returns-in-Ok-clause-made g c =
    let D = c.args.doc.now in
    let E = c.args.later.now in
    let tables = c.args.tables.now in
    let made = c.in_ok-parts.field-0 in
    let found : ArePartsOf tables made.guards.items made.parts.items = c.in_ok-parts.ensures.parts in
    record {
      later = E;
      parts = c.deref.result.now;
      migrated = c.requires.migrated;
      tables =
          subst (λ (ps : List (Table × Tree)). AreProtected D made.guards.items ps) (sym c.deref.ensures.value)
          (are_protected E tables made.guards.items made.parts.items c.start.ensures.formed c.requires.tables found D
          c.requires.migrated);
      is_text = c.in_ok-text-in-Ok.ensures.text;
      reads_back = c.in_ok-text-in-Ok.ensures.reads_back;
    }

pub returns-clause-none : goal.returns-clause-none
returns-clause-none g c =
    let D = c.args.doc.now in
    let E = c.args.later.now in
    let tables = c.args.tables.now in
    let is : IsDoc E = c.start.ensures.formed in
    let made = c.in_ok-parts.field-0 in
    let found : ArePartsOf tables made.guards.items made.parts.items = c.in_ok-parts.ensures.parts in
    let within : 0 < length made.parts.items = omega (arith, found.one_each, c.requires.some) in
    let first = get_or_read made.parts.items 0 c.index.result.now within c.index.ensures none in
    let why = c.in-Err.field-0 in
    let illegal : IsIllegal (new_table made.parts.items 0) E.start why =
    subst (λ (p : List ℕ). IsIllegal (new_table made.parts.items 0) p why) c.start.ensures.start
    (subst (λ (p : Table × Tree). IsIllegal p.0 c.start.result.now why) first c.in-Err.ensures.illegal) in
    start_forbidden E tables made.guards.items made.parts.items is c.requires.tables found D why c.requires.migrated illegal
