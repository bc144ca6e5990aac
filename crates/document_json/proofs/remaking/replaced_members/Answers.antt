use Rattle.std.proofs.lemmas.Result.{IfOk-weaker}
use Rattle.document_json.specs.Replaced.{each_with, exchanged, replaced}
use Rattle.document_json.proofs.NamedLemmas.{own-are-read}
use Rattle.document_json.proofs.Remade.{parts-named, members-of}
use Rattle.document_json.proofs.remaking.replaced_members.Goals as goal

pub replaced_tables-requires-clause-named : goal.replaced_tables-requires-clause-named
replaced_tables-requires-clause-named c = parts-named c.args.frame.now c.args.parts.now c.requires.one_each c.requires.taken

pub returns-clause-members : goal.returns-clause-members
returns-clause-members c =
    let D = c.args.frame.now in
    let v = c.version.ensures in
    IfOk-weaker c.members_with.result _ _
    (λ m h. members-of D (each_with exchanged D.tables c.args.parts.now) _ _ _ c.requires.taken v.version v.first v.last h c.in_ok-tables.ensures) c.members_with.ensures

pub returns-clause-read : goal.returns-clause-read
returns-clause-read c =
    let D = c.args.frame.now in
    let v = c.version.ensures in
    IfOk-weaker c.members_with.result _ _
    (λ m h.
    own-are-read (replaced D c.args.parts.now) _
    (members-of D (each_with exchanged D.tables c.args.parts.now) _ _ _ c.requires.taken v.version v.first v.last h c.in_ok-tables.ensures))
    c.members_with.ensures
