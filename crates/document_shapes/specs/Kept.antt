-- What a text is as JSON with all that it has: an object keeps the members that are given again, which `reading` leaves out.
use Rattle.std.specs.Prelude.{ℕ, List, Option, None, Result, ok_or, option_and_then, if◌then◌else◌}
use Rattle.std.specs.Str.{is_utf8}
use Rattle.json.specs.Json as json
use Rattle.json.specs.Lex.{tokens}
use Rattle.serde_json.specs.Read.{max_depth, of_json}
use Rattle.rail_model.specs.Turns.{in_turn}
use Rattle.document_shapes.specs.Raw.{DocMembers, doc_members}
use Rattle.document_shapes.specs.declared.refused.ShapeRefused.{ShapeRefused}
use Rattle.document_shapes.specs.declared.refused.ShapeRefused.TheVariants as refused

-- the value that a text is, where it nests no deeper than `serde_json` reads, and nothing follows it
abbrev pub in_text : List ℕ → Option json.Json
in_text text = option_and_then (λ p. json.if_last p.0 p.1) (json.value max_depth (tokens text))

-- the value that the bytes are, where they are UTF-8
unfoldable pub kept : List ℕ → Option json.Json
kept bytes = if is_utf8 bytes then in_text bytes else None

-- the members of the document that a value is; one with a number out of range is none that `serde_json` reads
abbrev pub members_in : json.Json → Result DocMembers ShapeRefused
members_in j = in_turn (ok_or (of_json j) refused.NotJson) doc_members
