use Rattle.std.proofs.Common.{◌≡◌, map, take, string_bytes}
use Rattle.document_json.proofs.members.trains.Given as goal

abbrev pub invariant-loop-train : goal.invariant-loop-train
invariant-loop-train l = map string_bytes l.found.items ≡ take l.train l.names.trains
