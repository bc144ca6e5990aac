-- Members in the order of their names are read one after another.
use Rattle.std.proofs.Common.{◌≡◌, ℕ, List, Some, Less, Greater, refl, sym, ap, ◌∙◌}
use Rattle.std.specs.Prelude.{⊤, option_and_then}
use Rattle.std.specs.Ordering.{nat_cmp, ordering_reverse}
use Rattle.std.specs.Cmp.Lexicographic.{slice_cmp}
use Rattle.std.proofs.lemmas.Cmp.{nat_list_cmp_total}
use Rattle.serde_json.specs.Data.{Data, Members, no_members, member, put}
use Rattle.serde_json.specs.Read.{of_json, of_members}
use Rattle.serde_json.specs.Written.{outline, members_outline}

abbrev pub Precedes : List ℕ → List ℕ → Type 0
Precedes k l = slice_cmp nat_cmp k l ≡ Less

-- The name comes after those of the members.
abbrev pub IsAfter : List ℕ → Members → Type 0
IsAfter name no_members = ⊤
IsAfter name (member k d ms) = Precedes k name × IsAfter name ms

abbrev pub followed : Members → Members → Members
followed no_members later = later
followed (member k d ms) later = member k d (followed ms later)

followed-none : (ms : Members) → followed ms no_members ≡ ms
followed-none no_members = refl
followed-none (member k d ms) = ap (member k d) (followed-none ms)

followed-member : (found : Members) (name : List ℕ) (d : Data) (ms : Members) → followed (followed found (member name d no_members)) ms ≡ followed found (member name d ms)
followed-member no_members name d ms = refl
followed-member (member k e found) name d ms = ap (member k e) (followed-member found name d ms)

put-last : (name : List ℕ) (d : Data) (ms : Members) → IsAfter name ms → put name d ms ≡ followed ms (member name d no_members)
put-last name d no_members h = refl
put-last name d (member k e ms) h =
    let above : slice_cmp nat_cmp name k ≡ Greater = nat_list_cmp_total.antisymm name k ∙ ap ordering_reverse h.0 in
    rw above (ap (member k e) (put-last name d ms h.1))

later-after : (k l : List ℕ) (ms : Members) → Precedes k l → IsAfter k ms → IsAfter l ms
later-after k l no_members less h = tt
later-after k l (member n d ms) less h = (nat_list_cmp_total.trans n k l h.0 less, later-after k l ms less h.1)

after-last : (k l : List ℕ) (d : Data) (ms : Members) → Precedes k l → IsAfter k ms → IsAfter l (followed ms (member k d no_members))
after-last k l d no_members less h = (less, tt)
after-last k l d (member n e ms) less h = (nat_list_cmp_total.trans n k l h.0 less, after-last k l d ms less h.1)

-- They are read in their order, after any members whose names come before this one.
abbrev pub AreReadFrom : List ℕ → Members → Type 0
AreReadFrom name ms = (found : Members) → IsAfter name found → of_members (members_outline ms) found ≡ Some (followed found ms)

pub none-read : (name : List ℕ) → AreReadFrom name no_members
none-read name found h = ap Some (sym (followed-none found))

pub member-read : (name next : List ℕ) (d : Data) (ms : Members) → Precedes name next → of_json (outline d) ≡ Some d → AreReadFrom next ms → AreReadFrom name (member name d ms)
member-read name next d ms less same rest found h =
    ap (option_and_then (λ e. of_members (members_outline ms) (put name e found))) same
    ∙ ap (of_members (members_outline ms)) (put-last name d found h)
    ∙ rest (followed found (member name d no_members)) (after-last name next d found less h)
    ∙ ap Some (followed-member found name d ms)

-- nothing has the name
pub skipped-read : (name next : List ℕ) (ms : Members) → Precedes name next → AreReadFrom next ms → AreReadFrom name ms
skipped-read name next ms less rest found h = rest found (later-after name next found less h)
