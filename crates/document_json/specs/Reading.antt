-- The document that bytes are, or the first thing that is wrong with them.
use Rattle.std.specs.Prelude.{ℕ, ◌||◌, ◌==◌, List, [], length, nat_lt, slice_index_or, Option, Result}
use Rattle.std.specs.Bool.{then_some}
use Rattle.rail_model.specs.Turns.{unless, in_turn}
use Rattle.track_layout.specs.Making.{layout_from}
use Rattle.mission_table.specs.Roster.{trains_from}
use Rattle.document_shapes.specs.Each.{each_from}
use Rattle.document_shapes.specs.Raw.{DocMembers, members_of}
use Rattle.document_json.specs.declared.refused.DocRefused.{DocRefused}
use Rattle.document_json.specs.declared.refused.DocRefused.TheVariants as refused
use Rattle.document_json.specs.Doc.{Doc, DocTable}
use Rattle.document_json.specs.Start.{start_refusal}
use Rattle.document_json.specs.Tables.{refused_as, doc_table_of}

-- no table, or more than 16
abbrev pub tables_refusal : ℕ → Option DocRefused
tables_refusal count = then_some ((count == 0) || nat_lt 16 count) (refused.Tables count)

-- the first table of a list
abbrev pub first_table : List DocTable → DocTable
first_table tables =
    slice_index_or tables 0
    (record { table = record { missions = []; sections = []; connections = [] }; after = 0; times = []; nodes = [] })

-- the document of these members: the layout, the trains, the number of tables, table by table, the start
abbrev pub doc_from : DocMembers → Result Doc DocRefused
doc_from m =
    in_turn (refused_as refused.Layout (layout_from m.points m.links m.zones)) (λ L.
    in_turn (refused_as refused.Trains (trains_from m.trains)) (λ trains.
    in_turn (unless (tables_refusal (length m.tables)) m.tables) (λ listed.
    in_turn (each_from (doc_table_of m.version L (length trains)) 0 listed) (λ tables.
    unless (start_refusal (first_table tables).table m.start)
    (record { version = m.version; layout = L; trains = trains; tables = tables; start = m.start })))))

-- the document that the bytes are
unfoldable pub doc_of : List ℕ → Result Doc DocRefused
doc_of bytes = in_turn (refused_as refused.Shape (members_of bytes)) doc_from
