use Rattle.std.proofs.Common.{◌≡◌, ◌∙◌, ℕ, ◌≤◌, List, length, map, ap}
use Rattle.std.proofs.lemmas.Result.{IfOk-weaker}
use Rattle.rail_model.specs.Certificate.{Tree}
use Rattle.document_shapes.specs.Raw.{DocMembers, TableMembers}
use Rattle.document_json.specs.Doc.{Doc, names_of}
use Rattle.document_json.specs.Keeps.{IsTaken, AreMembersOf}
use Rattle.document_json.specs.Members.{members_in, table_members_in, with_tables}
use Rattle.document_json.specs.Replaced.{each_with, recertified, certified}
use Rattle.document_json.proofs.Remade.{certified-is-taken, members-of}
use Rattle.document_json.proofs.remaking.write_certified.Goals as goal

-- the members that are made of a document's frame
are : (D F : Doc) (certs : List Tree) (m : DocMembers) (version : ℕ) (ts : List TableMembers) → F ≡ D → IsTaken D → length certs ≡ length D.tables → version ≡ D.version
    → 1 ≤ version → version ≤ 3 → m ≡ with_tables version ts (members_in F) → ts ≡ map (table_members_in D.version (names_of D)) (each_with recertified D.tables certs)
    → AreMembersOf (certified D certs) m
are D F certs m version ts frame taken one_each same first last is tables =
    members-of D (each_with recertified D.tables certs) m version ts (certified-is-taken D taken certs one_each) same first last
    (is ∙ ap (λ (E : Doc). with_tables version ts (members_in E)) frame) tables

pub returns-clause-text : goal.returns-clause-text
returns-clause-text c =
    let D = c.args.doc.now in
    let certs = c.args.certs.now in
    let v = c.version.ensures in
    let of = are D _ certs _ _ _ c.frame.ensures v.taken c.requires v.version v.first v.last c.in_ok-members.ensures c.in_ok-tables.ensures in
    IfOk-weaker c.write_members.result _ _ (λ b h. h (certified D certs) of) c.write_members.ensures.text

pub returns-clause-reads_back : goal.returns-clause-reads_back
returns-clause-reads_back c =
    let D = c.args.doc.now in
    let certs = c.args.certs.now in
    let v = c.version.ensures in
    let of = are D _ certs _ _ _ c.frame.ensures v.taken c.requires v.version v.first v.last c.in_ok-members.ensures c.in_ok-tables.ensures in
    IfOk-weaker c.write_members.result _ _ (λ b h. h (certified D certs) of) c.write_members.ensures.reads_back
