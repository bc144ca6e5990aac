-- Worked rows: documents read, and refused, as the definition computes it.
use Rattle.std.proofs.Common.{◌≡◌, [], ◌∷◌, Ok, refl}
use Rattle.std.specs.Prelude.{codes}
use Rattle.std.specs.Fmt.{digits}
use Rattle.std.specs.Str.{is_utf8, chars}
use Rattle.rail_model.specs.Certificate.{arrived}
use Rattle.serde_json.proofs.OnLiterals.{serde_json_on_literals}
use Rattle.rail_model.specs.declared.types.Node.TheVariants.{Split, Arrived, Move}
use Rattle.track_layout.specs.Making.{layout_from}
use Rattle.mission_table.specs.Roster.{trains_from}
use Rattle.mission_table.specs.Ways.{missions_from}
use Rattle.section_marks.specs.Marking.{table_from}
use Rattle.section_marks.specs.Connecting.{connected}
use Rattle.document_shapes.specs.Reading.{reading}
use Rattle.document_json.specs.Doc.{Doc}
use Rattle.document_json.specs.Migrated.{migrated}
use Rattle.document_json.specs.Reading.{doc_of}
use Rattle.document_json.specs.Replaced.{certified}
use Rattle.document_json.specs.Written.{written}

-- the first path: one train over A, B, C
abbrev first_path : Doc
first_path = record {
  version = 1;
  layout = record {
    points = record { name = codes "A"; zone = 0 } ∷ record { name = codes "B"; zone = 0 } ∷ record { name = codes "C"; zone = 0 } ∷ [];
    links = record { first = 0; second = 1 } ∷ record { first = 1; second = 2 } ∷ [];
    zones = 1;
  };
  trains = codes "T0" ∷ [];
  tables = record {
    table = record { missions = record { points = 0 ∷ 1 ∷ 2 ∷ []; exits = Rattle.std.specs.Prelude.false } ∷ []; sections = []; connections = [] };
    after = 0;
    times = (1 ∷ 1 ∷ []) ∷ [];
    nodes = Split 0 1 ∷ Move 0 ∷ Arrived ∷ [];
  } ∷ [];
  start = 0 ∷ [];
}

first_path_read : doc_of (codes "{\"version\":1,\"points\":[[\"A\",0],[\"B\",0],[\"C\",0]],\"links\":[[\"A\",\"B\"],[\"B\",\"C\"]],\"zones\":1,\"trains\":[\"T0\"],\"start\":[0],\"tables\":[{\"missions\":[[\"A\",\"B\",\"C\"]],\"certificate\":[[0,0,1],[4,0],[3]]}]}") ≡ Ok first_path
unfolding serde_json_on_literals reading is_utf8 chars doc_of layout_from trains_from missions_from table_from connected
first_path_read = refl

-- the first path, written
first_path_written : written first_path ≡ codes "{\"links\":[[\"A\",\"B\"],[\"B\",\"C\"]],\"points\":[[\"A\",0],[\"B\",0],[\"C\",0]],\"start\":[0],\"tables\":[{\"after\":0,\"certificate\":[[0,0,1],[4,0],[3]],\"missions\":[[\"A\",\"B\",\"C\"]],\"sections\":[],\"times\":[[1,1]]}],\"trains\":[\"T0\"],\"version\":1,\"zones\":1}\n"
unfolding serde_json_on_literals digits
first_path_written = refl

-- in version 2
first_path_migrated : written (migrated first_path) ≡ codes "{\"links\":[[\"A\",\"B\"],[\"B\",\"C\"]],\"points\":[[\"A\",0],[\"B\",0],[\"C\",0]],\"start\":[0],\"tables\":[{\"after\":0,\"certificate\":[[0,0,1],[4,0],[3]],\"exits\":[false],\"missions\":[[\"A\",\"B\",\"C\"]],\"sections\":[],\"times\":[[1,1]]}],\"trains\":[\"T0\"],\"version\":2,\"zones\":1}\n"
unfolding serde_json_on_literals digits
first_path_migrated = refl

-- with another certificate
first_path_certified : written (certified first_path (arrived ∷ [])) ≡ codes "{\"links\":[[\"A\",\"B\"],[\"B\",\"C\"]],\"points\":[[\"A\",0],[\"B\",0],[\"C\",0]],\"start\":[0],\"tables\":[{\"after\":0,\"certificate\":[[3]],\"missions\":[[\"A\",\"B\",\"C\"]],\"sections\":[],\"times\":[[1,1]]}],\"trains\":[\"T0\"],\"version\":1,\"zones\":1}\n"
unfolding serde_json_on_literals digits
first_path_certified = refl
