-- What is read has just the members of its version.
use Rattle.std.proofs.Common.{◌≡◌, ℕ, ◌<◌, ◌≤◌, List, Option, Some, None, false, Result, Ok, Err, inl, inr, subst, arith}
use Rattle.std.proofs.lemmas.Bool.Decides.{nat_tests, leb_tells}
use Rattle.std.specs.Prelude.{nat_le, ok_or}
use Rattle.json.specs.Json.{Json}
use Rattle.serde_json.specs.Data.{Data}
use Rattle.serde_json.specs.Read.{of_json}
use Rattle.rail_model.specs.Turns.{in_turn}
use Rattle.rail_model.proofs.Firsts.{unless-ok}
use Rattle.document_shapes.specs.Each.{each_from}
use Rattle.document_shapes.specs.Kept.{members_in}
use Rattle.document_shapes.specs.Members.{need, may, since}
use Rattle.document_shapes.specs.Parts.{node, section, connection}
use Rattle.document_shapes.specs.Raw.{TableMembers, DocMembers, IsOfVersion, IsRead, table_members, doc_members, members_of, known_version}
use Rattle.document_shapes.specs.Reading.{reading}
use Rattle.document_shapes.specs.Shape.{whole, truth, text, object, list_of, pair}
use Rattle.document_shapes.specs.declared.member.Member.TheVariants as member
use Rattle.document_shapes.specs.declared.refused.ShapeRefused.{ShapeRefused}
use Rattle.document_shapes.specs.declared.refused.ShapeRefused.TheVariants as refused
use Rattle.document_shapes.proofs.EachLemmas.{in_turn-ok, each-good}

since-older : {A : Type 0} (least version : ℕ) (r : Result (Option A) ShapeRefused) (o : Option A) → version < least → since least version r ≡ Ok o → o ≡ None
since-older least version r o lt h =
    let older : nat_le least version ≡ false = grind (arith, nat_tests) in
    let none = rw older at h in cc

table-version : (version t : ℕ) (d : Data) (m : TableMembers) → table_members version t d ≡ Ok m → IsOfVersion version m
table-version version t d m h =
    let missions = in_turn-ok (need (Some t) member.Missions (list_of (list_of text)) d) _ m h in
    let exits = in_turn-ok (since 2 version (may t member.Exits (list_of truth) d)) _ m missions.behind in
    let sections = in_turn-ok (may t member.Sections (list_of section) d) _ m exits.behind in
    let connections = in_turn-ok (since 3 version (may t member.Connections (list_of connection) d)) _ m sections.behind in
    let certificate = in_turn-ok (may t member.Certificate (list_of node) d) _ m connections.behind in
    let times = in_turn-ok (may t member.Times (list_of (list_of whole)) d) _ m certificate.behind in
    let after = in_turn-ok (may t member.After whole d) _ m times.behind in
    let made : TableMembers =
    record {
      missions = missions.value;
      exits = exits.value;
      sections = sections.value;
      connections = connections.value;
      certificate = certificate.value;
      times = times.value;
      after = after.value;
    } in
    let same : made ≡ m = (unless-ok None made m after.behind).1 in
    subst (IsOfVersion version) same (record {
      exits = λ older. since-older 2 version _ exits.value older exits.first;
      connections = λ older. since-older 3 version _ connections.value older connections.first;
    })

known : (r : Result ℕ ShapeRefused) (v : ℕ) → in_turn r known_version ≡ Ok v → (1 ≤ v) × (v ≤ 3)
known (Ok w) v h = elim (leb_tells 1 w) [
  | inl low ↦ elim (leb_tells w 3) [
    | inl high ↦ let taken = rw (low.0, high.0) at h in let same : w ≡ v = cc in (subst (λ n. 1 ≤ n) same low.1, subst (λ n. n ≤ 3) same high.1)
    | inr high ↦ let refused = rw (low.0, high.0) at h in absurd cc
  ]
  | inr low ↦ let refused = rw low.0 at h in absurd cc
]
known (Err e) v h = absurd cc

doc-version : (d : Data) (m : DocMembers) → doc_members d ≡ Ok m → IsRead m
doc-version d m h =
    let given = in_turn-ok (ok_or (object d) (refused.Shape None member.Document)) _ m h in
    let version = in_turn-ok (in_turn (need None member.Version whole d) known_version) _ m given.behind in
    let points = in_turn-ok (need None member.Points (list_of (pair text whole)) d) _ m version.behind in
    let links = in_turn-ok (need None member.Links (list_of (pair text text)) d) _ m points.behind in
    let zones = in_turn-ok (need None member.Zones whole d) _ m links.behind in
    let trains = in_turn-ok (need None member.Trains (list_of text) d) _ m zones.behind in
    let start = in_turn-ok (need None member.Start (list_of whole) d) _ m trains.behind in
    let tables = in_turn-ok (in_turn (need None member.Tables (list_of object) d) (each_from (table_members version.value) 0)) _ m start.behind in
    let listed = in_turn-ok (need None member.Tables (list_of object) d) _ tables.value tables.first in
    let v = version.value in
    let made : DocMembers = record { version = v; points = points.value; links = links.value; zones = zones.value; trains = trains.value; start = start.value; tables = tables.value } in
    let same : made ≡ m = (unless-ok None made m tables.behind).1 in
    let bounds = known (need None member.Version whole d) v version.first in
    subst IsRead same (record {
      first = bounds.0;
      last = bounds.1;
      tables = λ k e lt. each-good (table_members v) (λ _. Unit {0}) (λ _ y. IsOfVersion v y)
          (λ t x y _ made. table-version v t x y made) 0 listed.value tables.value (λ _ _ _. tt) listed.behind k e lt;
    })

-- bytes that are read give members of their version
pub read-version : (bytes : List ℕ) (m : DocMembers) → members_of bytes ≡ Ok m → IsRead m
read-version bytes m h =
    let given = in_turn-ok (ok_or (reading bytes) refused.NotJson) doc_members m h in
    doc-version given.value m given.behind

-- and so does a value
pub value-version : (j : Json) (m : DocMembers) → members_in j ≡ Ok m → IsRead m
value-version j m h =
    let given = in_turn-ok (ok_or (of_json j) refused.NotJson) doc_members m h in
    doc-version given.value m given.behind
