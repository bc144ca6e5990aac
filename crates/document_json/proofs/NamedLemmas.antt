-- The points of a document's ways have names, and each member is of its version.
use Rattle.std.proofs.Common.{◌≡◌, false, ℕ, ◌<◌, ◌≤◌, [], length, get_or, slice_get, All, None, refl, sym, ap, subst, ◌∙◌, arith}
use Rattle.std.specs.Prelude.{nat_le}
use Rattle.std.proofs.lemmas.Bool.Decides.{nat_tests}
use Rattle.std.proofs.lemmas.List.{length-map, get_or_default}
use Rattle.std.proofs.lemmas.Option.{slice_get-get_or}
use Rattle.std.proofs.lemmas.List.Elements.{All-map}
use Rattle.rail_model.specs.Names.{Names}
use Rattle.rail_model.specs.Layout.{Layout}
use Rattle.rail_model.specs.Table.{Table, Mission}
use Rattle.rail_model.specs.Ways.{IsOn}
use Rattle.document_shapes.specs.Raw.{DocMembers, IsRead, IsOfVersion}
use Rattle.document_json.specs.Doc.{Doc, DocTable, names_of}
use Rattle.document_json.specs.Keeps.{AreMembersOf}
use Rattle.document_json.specs.Members.{from_version, members_in, table_members_in}
use Rattle.document_json.specs.Written.{AreNamed}

pub ways-named : (N : Names) (L : Layout) (T : Table) → length N.points ≡ length L.points → IsOn L T → All (AreNamed N) T.missions
ways-named N L T same on i d lt k e at =
    let m = get_or T.missions i d in
    let q = get_or m.points k e in
    let point = ap (λ (w : Mission). slice_get w.points k) (get_or_default T.missions i (record { points = []; exits = false }) d lt) ∙ slice_get-get_or m.points k e at in
    let below = on i k q point in
    omega (arith, below, same)

pub points-counted : (D : Doc) → length (names_of D).points ≡ length D.layout.points
points-counted D = length-map D.layout.points _

since-none : {A : Type 0} (least version : ℕ) (a : A) → version < least → from_version least version a ≡ None
since-none least version a older = let test : nat_le least version ≡ false = grind (arith, nat_tests) in rw test refl

pub of_version : (version : ℕ) (N : Names) (t : DocTable) → IsOfVersion version (table_members_in version N t)
of_version version N t = record { exits = since-none 2 version _; connections = since-none 3 version _ }

pub of-version : (D : Doc) → All (IsOfVersion D.version) (members_in D).tables
of-version D = All-map (IsOfVersion D.version) (table_members_in D.version (names_of D)) D.tables (λ k d lt. of_version D.version (names_of D) (get_or D.tables k d))

-- a document's own members can be read
pub members-are-read : (D : Doc) → 1 ≤ D.version → D.version ≤ 3 → IsRead (members_in D)
members-are-read D first last = record { first = first; last = last; tables = of-version D }

pub own-are-read : (D : Doc) (m : DocMembers) → AreMembersOf D m → IsRead m
own-are-read D m of = subst IsRead (sym of.are) (members-are-read D of.first of.last)
