-- What is printed of a document that is refused.
use Rattle.std.specs.Prelude.{ℕ, List, ◌++◌, codes, decimal, Option, Some, None}
use Rattle.document_shapes.specs.Members.{name_of}
use Rattle.document_shapes.specs.declared.member.Member.{Member}
use Rattle.document_shapes.specs.declared.refused.ShapeRefused.{ShapeRefused}
use Rattle.document_shapes.specs.declared.refused.ShapeRefused.TheVariants as shape
use Rattle.document_json.specs.declared.refused.DocRefused.{DocRefused}
use Rattle.document_json.specs.declared.refused.DocRefused.TheVariants as document
use Rattle.refusal_lines.specs.Fields.{no_memory}
use Rattle.refusal_lines.specs.Layouts.{layout_words, trains_words}
use Rattle.refusal_lines.specs.Missions.{missions_words}
use Rattle.refusal_lines.specs.Marks.{marks_words}
use Rattle.refusal_lines.specs.Starts.{start_words}

-- A member of another shape, of the document or of a table.
abbrev pub member_words : Option ℕ → Member → List ℕ
member_words None m = codes "102 Shape member=" ++ name_of m
member_words (Some t) m = codes "102 Shape table=" ++ decimal t ++ codes " member=" ++ name_of m

-- The refusals of bytes that have no members of a document.
abbrev pub shape_words : ShapeRefused → List ℕ
shape_words shape.NotJson = codes "101 NotJson"
shape_words (shape.Shape t m) = member_words t m
shape_words (shape.Version v) = codes "103 Version value=" ++ decimal v
shape_words shape.Memory = no_memory

-- The refusals of documents.
abbrev pub document_words : DocRefused → List ℕ
document_words (document.Shape e) = shape_words e
document_words (document.Layout e) = layout_words e
document_words (document.Trains e) = trains_words e
document_words (document.Missions t e) = missions_words t e
document_words (document.Marks t e) = marks_words t e
document_words (document.After t v) = codes "105 After table=" ++ decimal t ++ codes " value=" ++ decimal v
document_words (document.StartLength n) = codes "111 StartLength count=" ++ decimal n
document_words (document.Start e) = start_words e
document_words (document.TimesLength t i n) = codes "113 TimesLength table=" ++ decimal t ++ codes " train=" ++ decimal i ++ codes " count=" ++ decimal n
document_words (document.TimesValue t i k v) =
    codes "114 TimesValue table=" ++ decimal t ++ codes " train=" ++ decimal i ++ codes " place=" ++ decimal k ++ codes " value=" ++ decimal v
document_words (document.Tables n) = codes "115 Tables count=" ++ decimal n
document_words document.Memory = no_memory
