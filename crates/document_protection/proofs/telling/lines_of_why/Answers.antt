use Rattle.std.proofs.Common.{List, length, subst, sym}
use Rattle.forbidden_states.specs.Forbid.{Stay}
use Rattle.document_json.specs.Doc.{table_at}
use Rattle.document_protection.specs.Protected.{AreLeft, HaveGuards}
use Rattle.document_protection.proofs.Naming.{left_have_guards}
use Rattle.document_protection.proofs.telling.lines_of_why.Goals as goal

pub push_uncertified-requires : goal.push_uncertified-requires
push_uncertified-requires c =
    let D = c.args.doc.now in
    let of = c.in-Uncertified in
    let left : AreLeft (length D.tables) (table_at D) of.table of.guards.items of.why = rw of.is at c.requires in
    subst (λ (gs : List (List (List Stay))). HaveGuards D gs) (sym c.deref.ensures.value)
    (left_have_guards D of.table of.guards.items of.why left)
