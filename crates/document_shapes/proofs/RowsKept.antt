-- Worked rows: a member that is given again is kept, and its last value is read; a number out of range is kept, and isn't read.
use Rattle.std.proofs.Common.{◌≡◌, Some, None, refl}
use Rattle.std.specs.Prelude.{codes}
use Rattle.std.specs.Str.{is_utf8, chars}
use Rattle.json.specs.Json as json
use Rattle.serde_json.specs.Data.{unsigned, number, object, no_members, member}
use Rattle.serde_json.proofs.OnLiterals.{serde_json_on_literals}
use Rattle.document_shapes.specs.Kept.{kept}
use Rattle.document_shapes.specs.Reading.{reading}

again_kept : kept (codes "{\"a\":1,\"a\":2}") ≡ Some (json.object (json.member (codes "a") (json.number (codes "1")) (json.member (codes "a") (json.number (codes "2")) json.no_members)))
unfolding serde_json_on_literals kept is_utf8 chars
again_kept = refl

again_read : reading (codes "{\"a\":1,\"a\":2}") ≡ Some (object (member (codes "a") (number (unsigned 2)) no_members))
unfolding serde_json_on_literals reading is_utf8 chars
again_read = refl

out_of_range_kept : kept (codes "1e999") ≡ Some (json.number (codes "1e999"))
unfolding serde_json_on_literals kept is_utf8 chars
out_of_range_kept = refl

out_of_range_read : reading (codes "1e999") ≡ None
unfolding serde_json_on_literals reading is_utf8 chars
out_of_range_read = refl
