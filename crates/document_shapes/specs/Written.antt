-- The text of a document: compact, its members in the byte order of their names, and a newline.
use Rattle.std.specs.Prelude.{ℕ, ℤ, List, [], ◌∷◌, ◌++◌, codes, map, Option, Some, None, option_map}
use Rattle.serde_json.specs.Data.{Data, boolean, number, string, array, object, unsigned, no_items, item, Members, no_members, member}
use Rattle.serde_json.specs.Find.{of_integer}
use Rattle.serde_json.specs.View.{items_of}
use Rattle.serde_json.specs.Written.{compact_text}
use Rattle.rail_model.specs.declared.types.Node.{Node}
use Rattle.rail_model.specs.declared.types.Node.TheVariants.{Split, Clash, Overfull, Arrived, Move}
use Rattle.rail_model.specs.Table.{Section, Connection}
use Rattle.document_shapes.specs.Raw.{TableMembers, DocMembers}

-- a list, from what stands for each item
abbrev pub list_data : {A : Type 0} → (A → Data) → List A → Data
list_data put xs = array (items_of (map put xs))

abbrev pub pair_data : {A B : Type 0} → (A → Data) → (B → Data) → A × B → Data
pair_data a b p = array (item (a p.0) (item (b p.1) no_items))

-- a whole number
abbrev pub whole_data : ℕ → Data
whole_data n = number (unsigned n)

-- a number with its sign
abbrev pub change_data : ℤ → Data
change_data z = number (of_integer z)

abbrev pub node_data : Node → Data
node_data (Split i m) = list_data whole_data (0 ∷ i ∷ m ∷ [])
node_data (Clash i j) = list_data whole_data (1 ∷ i ∷ j ∷ [])
node_data (Overfull s) = list_data whole_data (2 ∷ s ∷ [])
node_data Arrived = list_data whole_data (3 ∷ [])
node_data (Move i) = list_data whole_data (4 ∷ i ∷ [])

-- a section's members, in the byte order of their names
abbrev pub section_of : Data → ℕ → Data
section_of changes limit = object (member (codes "changes") changes (member (codes "limit") (whole_data limit) no_members))

abbrev pub section_data : Section → Data
section_data s = section_of (list_data (list_data change_data) s.changes) s.limit

abbrev pub connection_data : Connection → Data
connection_data k = list_data whole_data (k.train ∷ k.place ∷ k.other ∷ k.reached ∷ [])

-- a member before others, where there is one
abbrev pub given_member : List ℕ → Option Data → Members → Members
given_member name None later = later
given_member name (Some d) later = member name d later

-- a table's members, in the byte order of their names
abbrev pub table_data : TableMembers → Data
table_data t =
    object
    (given_member (codes "after") (option_map whole_data t.after)
    (given_member (codes "certificate") (option_map (list_data node_data) t.certificate)
    (given_member (codes "connections") (option_map (list_data connection_data) t.connections)
    (given_member (codes "exits") (option_map (list_data boolean) t.exits)
    (member (codes "missions") (list_data (list_data string) t.missions)
    (given_member (codes "sections") (option_map (list_data section_data) t.sections)
    (given_member (codes "times") (option_map (list_data (list_data whole_data)) t.times)
    no_members)))))))

-- a document's members, in the byte order of their names
abbrev pub doc_data : DocMembers → Data
doc_data d =
    object
    (member (codes "links") (list_data (pair_data string string) d.links)
    (member (codes "points") (list_data (pair_data string whole_data) d.points)
    (member (codes "start") (list_data whole_data d.start)
    (member (codes "tables") (list_data table_data d.tables)
    (member (codes "trains") (list_data string d.trains)
    (member (codes "version") (whole_data d.version)
    (member (codes "zones") (whole_data d.zones)
    no_members)))))))

-- the text of these members
abbrev pub text_of : DocMembers → List ℕ
text_of d = compact_text (doc_data d) ++ 10 ∷ []
