-- A table's members, as they are written, read as they were.
use Rattle.std.proofs.Common.{◌≡◌, ℕ, ◌<◌, ◌≤◌, false, List, codes, Option, Some, None, option_map, Result, Ok, Equal, Ordering, Less, Greater, refl, sym, ap, ◌∙◌, arith, inl, inr, is_eq, true≢false}
use Rattle.std.specs.Prelude.{option_and_then, ok_or}
use Rattle.std.specs.Ordering.{nat_cmp, match_ordering}
use Rattle.std.specs.Cmp.Lexicographic.{slice_cmp}
use Rattle.std.proofs.lemmas.Bool.Decides.{leb_tells}
use Rattle.serde_json.specs.Data.{Data, boolean, string, object, Members, no_members}
use Rattle.serde_json.specs.Find.{get_member}
use Rattle.document_shapes.specs.InRange.{IfGiven}
use Rattle.document_shapes.specs.Members.{name_of, need, may, since, shaped}
use Rattle.document_shapes.specs.Parts.{node, section, connection}
use Rattle.document_shapes.specs.Raw.{TableMembers, IsOfVersion, table_members}
use Rattle.document_shapes.specs.Shape.{Shape, whole, truth, text, list_of}
use Rattle.document_shapes.specs.Written.{list_data, whole_data, node_data, section_data, connection_data, given_member, table_data}
use Rattle.document_shapes.specs.declared.member.Member.{Member}
use Rattle.document_shapes.specs.declared.member.Member.TheVariants as names
use Rattle.document_shapes.specs.declared.refused.ShapeRefused.{ShapeRefused}
use Rattle.document_shapes.specs.declared.refused.ShapeRefused.TheVariants as refused
use Rattle.document_shapes.proofs.BackLemmas.{ReadsAs}
use Rattle.document_shapes.proofs.PlainLemmas.{IsPlain, plain-no_members, plain-member, plain-given, plain-object, plain-within}
use Rattle.document_shapes.proofs.TableOrder.{Standing, from_times, from_sections, from_missions, from_exits, from_connections, from_certificate, all_members, standing_for}

-- ---- what is found under a name

either : (o : Ordering) (a b : Option Data) → is_eq o ≡ false → match_ordering o a b a ≡ a
either Less a b e = refl
either Equal a b e = absurd (true≢false e)
either Greater a b e = refl

found-past : (k l : List ℕ) (o : Option Data) (ms : Members) → is_eq (slice_cmp nat_cmp k l) ≡ false → get_member k (given_member l o ms) ≡ get_member k ms
found-past k l None ms other = refl
found-past k l (Some d) ms other = either (slice_cmp nat_cmp k l) (get_member k ms) (Some d) other

found-here : (k : List ℕ) (o : Option Data) (ms : Members) → slice_cmp nat_cmp k k ≡ Equal → get_member k ms ≡ None → get_member k (given_member k o ms) ≡ o
found-here k None ms same none = none
found-here k (Some d) ms same none = rw same refl

module _ (s : Standing) where
  -- neither of the last two members
  absent : (k : List ℕ) → is_eq (slice_cmp nat_cmp k (codes "sections")) ≡ false → is_eq (slice_cmp nat_cmp k (codes "times")) ≡ false → get_member k (from_sections s) ≡ None
  absent k sections times = found-past k (codes "sections") s.sections (from_times s) sections ∙ found-past k (codes "times") s.times no_members times

  -- what a name that comes after those of the first four finds
  past_four : (k : List ℕ) → is_eq (slice_cmp nat_cmp k (codes "after")) ≡ false → is_eq (slice_cmp nat_cmp k (codes "certificate")) ≡ false
      → is_eq (slice_cmp nat_cmp k (codes "connections")) ≡ false → is_eq (slice_cmp nat_cmp k (codes "exits")) ≡ false → get_member k (all_members s) ≡ get_member k (from_missions s)
  past_four k after certificate connections exits =
      found-past k (codes "after") s.after (from_certificate s) after ∙ found-past k (codes "certificate") s.certificate (from_connections s) certificate
      ∙ found-past k (codes "connections") s.connections (from_exits s) connections ∙ found-past k (codes "exits") s.exits (from_missions s) exits

  at_after : get_member (codes "after") (all_members s) ≡ s.after
  at_after =
      found-here (codes "after") s.after (from_certificate s) refl
      (found-past (codes "after") (codes "certificate") s.certificate (from_connections s) refl ∙ found-past (codes "after") (codes "connections") s.connections (from_exits s) refl
      ∙ found-past (codes "after") (codes "exits") s.exits (from_missions s) refl ∙ absent (codes "after") refl refl)

  at_certificate : get_member (codes "certificate") (all_members s) ≡ s.certificate
  at_certificate =
      found-past (codes "certificate") (codes "after") s.after (from_certificate s) refl
      ∙ found-here (codes "certificate") s.certificate (from_connections s) refl
      (found-past (codes "certificate") (codes "connections") s.connections (from_exits s) refl ∙ found-past (codes "certificate") (codes "exits") s.exits (from_missions s) refl
      ∙ absent (codes "certificate") refl refl)

  at_connections : get_member (codes "connections") (all_members s) ≡ s.connections
  at_connections =
      found-past (codes "connections") (codes "after") s.after (from_certificate s) refl ∙ found-past (codes "connections") (codes "certificate") s.certificate (from_connections s) refl
      ∙ found-here (codes "connections") s.connections (from_exits s) refl
      (found-past (codes "connections") (codes "exits") s.exits (from_missions s) refl ∙ absent (codes "connections") refl refl)

  at_exits : get_member (codes "exits") (all_members s) ≡ s.exits
  at_exits =
      found-past (codes "exits") (codes "after") s.after (from_certificate s) refl ∙ found-past (codes "exits") (codes "certificate") s.certificate (from_connections s) refl
      ∙ found-past (codes "exits") (codes "connections") s.connections (from_exits s) refl
      ∙ found-here (codes "exits") s.exits (from_missions s) refl (absent (codes "exits") refl refl)

  at_missions : get_member (codes "missions") (all_members s) ≡ Some s.missions
  at_missions = past_four (codes "missions") refl refl refl refl

  at_sections : get_member (codes "sections") (all_members s) ≡ s.sections
  at_sections =
      past_four (codes "sections") refl refl refl refl
      ∙ found-here (codes "sections") s.sections (from_times s) refl (found-past (codes "sections") (codes "times") s.times no_members refl)

  at_times : get_member (codes "times") (all_members s) ≡ s.times
  at_times =
      past_four (codes "times") refl refl refl refl
      ∙ found-past (codes "times") (codes "sections") s.sections (from_times s) refl ∙ found-here (codes "times") s.times no_members refl refl

-- ---- and what is read of it

pub needed-back : {A : Type 0} (t : Option ℕ) (m : Member) (shape : Shape A) (ms : Members) (d : Data) (x : A) → get_member (name_of m) ms ≡ Some d → shape d ≡ Some x
    → need t m shape (object ms) ≡ Ok x
needed-back t m shape ms d x found reads =
    ap (λ o. ok_or (option_and_then shape o) (refused.Shape t m)) found ∙ ap (λ o. ok_or o (refused.Shape t m)) reads

module _ {A : Type 0} (put : A → Data) (levels : ℕ) (shape : Shape A) where
  shaped-back : (e : ShapeRefused) (o : Option A) → IfGiven (ReadsAs put levels shape) o → shaped e shape (option_map put o) ≡ Ok o
  shaped-back e None h = refl
  shaped-back e (Some x) h = ap (λ r. ok_or (option_map Some r) e) h.back

  given-back : (t : ℕ) (m : Member) (o : Option A) (ms : Members) → get_member (name_of m) ms ≡ option_map put o → IfGiven (ReadsAs put levels shape) o
      → may t m shape (object ms) ≡ Ok o
  given-back t m o ms found reads = ap (shaped (refused.Shape (Some t) m) shape) found ∙ shaped-back (refused.Shape (Some t) m) o reads

pub since-back : {A : Type 0} (least version : ℕ) (r : Result (Option A) ShapeRefused) (o : Option A) → (version < least → o ≡ None) → r ≡ Ok o → since least version r ≡ Ok o
since-back least version r o older is = elim (leb_tells least version) [
  | inl now ↦ rw now.0 is
  | inr then_none ↦ rw then_none.0 (ap Ok (sym (older (omega (arith, then_none.1)))))
]

-- Each member of a table reads as it is.
pub record TableReads (t : TableMembers) : Type 0 where
  pub missions : ReadsAs (list_data (list_data string)) 2 (list_of (list_of text)) t.missions
  pub exits : IfGiven (ReadsAs (list_data boolean) 1 (list_of truth)) t.exits
  pub sections : IfGiven (ReadsAs (list_data section_data) 4 (list_of section)) t.sections
  pub connections : IfGiven (ReadsAs (list_data connection_data) 2 (list_of connection)) t.connections
  pub certificate : IfGiven (ReadsAs (list_data node_data) 2 (list_of node)) t.certificate
  pub times : IfGiven (ReadsAs (list_data (list_data whole_data)) 2 (list_of (list_of whole))) t.times
  pub after : IfGiven (ReadsAs whole_data 0 whole) t.after

-- a table reads back
pub table-back : (version number : ℕ) (t : TableMembers) → TableReads t → IsOfVersion version t → table_members version number (table_data t) ≡ Ok t
table-back version number t h of =
    let s = standing_for t in
    let ms = all_members s in
    rw (
      needed-back (Some number) names.Missions (list_of (list_of text)) ms s.missions t.missions (at_missions s) h.missions.back,
      since-back 2 version _ t.exits of.exits (given-back (list_data boolean) 1 (list_of truth) number names.Exits t.exits ms (at_exits s) h.exits),
      given-back (list_data section_data) 4 (list_of section) number names.Sections t.sections ms (at_sections s) h.sections,
      since-back 3 version _ t.connections of.connections (given-back (list_data connection_data) 2 (list_of connection) number names.Connections t.connections ms (at_connections s) h.connections),
      given-back (list_data node_data) 2 (list_of node) number names.Certificate t.certificate ms (at_certificate s) h.certificate,
      given-back (list_data (list_data whole_data)) 2 (list_of (list_of whole)) number names.Times t.times ms (at_times s) h.times,
      given-back whole_data 0 whole number names.After t.after ms (at_after s) h.after,
    ) refl

given-within : {A : Type 0} (put : A → Data) (levels k : ℕ) (shape : Shape A) (o : Option A) → levels ≤ k → IfGiven (ReadsAs put levels shape) o → IfGiven (IsPlain k) (option_map put o)
given-within put levels k shape None deep h = tt
given-within put levels k shape (Some x) deep h = plain-within levels k (put x) deep h.plain

-- and is plain
pub table-plain : (t : TableMembers) → TableReads t → IsPlain 5 (table_data t)
table-plain t h =
    let of_times = given-within (list_data (list_data whole_data)) 2 4 (list_of (list_of whole)) t.times (omega arith) h.times in
    let of_sections = given-within (list_data section_data) 4 4 (list_of section) t.sections (omega arith) h.sections in
    let of_exits = given-within (list_data boolean) 1 4 (list_of truth) t.exits (omega arith) h.exits in
    let of_connections = given-within (list_data connection_data) 2 4 (list_of connection) t.connections (omega arith) h.connections in
    let of_certificate = given-within (list_data node_data) 2 4 (list_of node) t.certificate (omega arith) h.certificate in
    let of_after = given-within whole_data 0 4 whole t.after (omega arith) h.after in
    let with_times = plain-given 4 (codes "times") (codes "~") refl refl _ no_members of_times (plain-no_members 4 (codes "~")) in
    let with_sections = plain-given 4 (codes "sections") (codes "times") refl refl _ _ of_sections with_times in
    let with_missions = plain-member 4 (codes "missions") (codes "sections") refl refl _ _ (plain-within 2 4 _ (omega arith) h.missions.plain) with_sections in
    let with_exits = plain-given 4 (codes "exits") (codes "missions") refl refl _ _ of_exits with_missions in
    let with_connections = plain-given 4 (codes "connections") (codes "exits") refl refl _ _ of_connections with_exits in
    let with_certificate = plain-given 4 (codes "certificate") (codes "connections") refl refl _ _ of_certificate with_connections in
    let with_after = plain-given 4 (codes "after") (codes "certificate") refl refl _ _ of_after with_certificate in
    plain-object 4 (codes "after") _ with_after
