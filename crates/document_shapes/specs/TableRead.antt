-- What a value reads as, as a table of a document.
use Rattle.std.specs.Prelude.{◌≡◌, ℕ, Bool, ◌&&◌, ◌||◌, nat_le, is_none, Some, Ok}
use Rattle.serde_json.specs.Data.{Data}
use Rattle.document_shapes.specs.Raw.{IsOfVersion, table_members}
use Rattle.document_shapes.specs.Seen.{seen_table}
use Rattle.document_shapes.specs.Shape.{object}
use Rattle.document_shapes.specs.declared.table.TableMembers.{TableMembers}

-- An object whose members are these, in each version that has them.
pub record ReadsTable (d : Data) (t : TableMembers) : Type 0 where
  pub is_object : object d ≡ Some d
  pub members : (version number : ℕ) → IsOfVersion version (seen_table t) → table_members version number d ≡ Ok (seen_table t)

-- whether the table has only members that the version has
abbrev pub is_of_version : ℕ → TableMembers → Bool
is_of_version version t = (nat_le 2 version || is_none t.exits) && (nat_le 3 version || is_none t.connections)
