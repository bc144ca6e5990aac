-- The document that a text's value is, or the first thing that is wrong with it.
use Rattle.std.specs.Prelude.{Result}
use Rattle.json.specs.Json.{Json}
use Rattle.rail_model.specs.Turns.{in_turn}
use Rattle.document_shapes.specs.Kept.{members_in}
use Rattle.document_json.specs.declared.refused.DocRefused.{DocRefused}
use Rattle.document_json.specs.declared.refused.DocRefused.TheVariants as refused
use Rattle.document_json.specs.Doc.{Doc}
use Rattle.document_json.specs.Reading.{doc_from}
use Rattle.document_json.specs.Tables.{refused_as}

abbrev pub doc_in : Json → Result Doc DocRefused
doc_in j = in_turn (refused_as refused.Shape (members_in j)) doc_from
