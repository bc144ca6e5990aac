-- Worked rows: what begins as a document, what stands for it, and the names of sections.
use Rattle.std.proofs.Common.{◌≡◌, List, ℕ, [], ◌∷◌, true, false, replicate, refl, subst, String, Vec, Global}
use Rattle.std.specs.Prelude.{Some, codes, MatchBool}
use Rattle.toml.specs.Data.{Data, Items, no_items, item, Members, no_members, member, array, string, table}
use Rattle.std.specs.Fmt.{digits}
use Rattle.plan_input.specs.Numbered.{with_numbered}
use Rattle.plan_input.specs.declared.numbered.Further.TheVariants.{Crossing, Added}
use Rattle.document_json.specs.Doc.{Doc}
use Rattle.plan_input.specs.Called.{names_by, own_names}
use Rattle.plan_input.specs.Named.{names_in, section_names}
use Rattle.plan_input.specs.Standing.{IsOfPlan, StandsFor, begins_as_document, first_sign}

-- spaces and newlines before a document are none of its signs
document_begins : begins_as_document (codes "\n {\"version\":3}") ≡ true
document_begins = refl

plan_begins : begins_as_document (codes "[[train]]\nname = \"{\"\n") ≡ false
plan_begins = refl

comment_begins : first_sign (codes "\n# a plan") ≡ Some 35
comment_begins = refl

-- an input without a sign is no document
nothing_begins : begins_as_document (codes " \n") ≡ false
nothing_begins = refl

-- only itself stands for a document
pub document_stands : (input text : List ℕ) (names : List (Vec (String Global) Global)) → begins_as_document input ≡ true → StandsFor input text names →
    text ≡ input
document_stands input text names begins stands =
    (subst (λ b. MatchBool b ((text ≡ input) × (names ≡ [])) (IsOfPlan input text names)) begins stands).0

-- only the document of a plan stands for a plan
pub plan_stands : (input text : List ℕ) (names : List (Vec (String Global) Global)) → begins_as_document input ≡ false → StandsFor input text names →
    IsOfPlan input text names
plan_stands input text names begins stands =
    subst (λ b. MatchBool b ((text ≡ input) × (names ≡ [])) (IsOfPlan input text names)) begins stands

itself_stands : StandsFor (codes "{}") (codes "{}") []
itself_stands = (refl, refl)

abbrev named : List ℕ → Data
named name = table (member (codes "name") (string name) no_members)

-- the first section has a name, the second none
abbrev two : Items
two = item (named (codes "corridor")) (item (table no_members) no_items)

two_names : names_in two ≡ codes "corridor" ∷ [] ∷ []
two_names = refl

-- two further tables: the first has a section of its own, the other those of the text
abbrev in_tables : Members
in_tables = member (codes "section") (array two) (member (codes "table")
    (array (item (table (member (codes "section") (array (item (named (codes "loop")) no_items)) no_members)) (item (table no_members) no_items))) no_members)

names_by_tables : section_names in_tables
    ≡ (codes "corridor" ∷ [] ∷ []) ∷ (codes "loop" ∷ []) ∷ (codes "corridor" ∷ [] ∷ []) ∷ []
names_by_tables = refl

-- sections without names are counted from 1: those that were added behind the others, and those of crossings before them
added_names : with_numbered Added (codes "corridor" ∷ []) 3 ≡ codes "corridor" ∷ codes "added 1" ∷ codes "added 2" ∷ []
unfolding digits
added_names = refl

none_added : with_numbered Added (codes "corridor" ∷ []) 1 ≡ codes "corridor" ∷ []
unfolding digits
none_added = refl

crossing_names : with_numbered Crossing (codes "corridor" ∷ []) 3 ≡ codes "crossing 1" ∷ codes "crossing 2" ∷ codes "corridor" ∷ []
unfolding digits
crossing_names = refl

-- a document with one table, which has so many sections
abbrev with_sections : ℕ → Doc
with_sections count = record {
  version = 3;
  layout = record { points = []; links = []; zones = 1 };
  trains = [];
  tables = record {
    table = record { missions = []; sections = replicate count (record { limit = 1; changes = [] }); connections = [] };
    after = 0;
    times = [];
    nodes = [];
  } ∷ [];
  start = [];
}

abbrev corridor : Members
corridor = member (codes "section") (array (item (named (codes "corridor")) no_items)) no_members

-- a section of a crossing is before the one that the plan names, and an added one behind both
crossing_name : own_names (with_sections 2) corridor ≡ (codes "crossing 1" ∷ codes "corridor" ∷ []) ∷ []
unfolding digits
crossing_name = refl

names_by_plan : names_by (with_sections 3) (with_sections 2) corridor ≡ (codes "crossing 1" ∷ codes "corridor" ∷ codes "added 1" ∷ []) ∷ []
unfolding digits
names_by_plan = refl

-- without crossings, the names are those that the plan says
no_crossing : own_names (with_sections 1) corridor ≡ section_names corridor
no_crossing = refl
