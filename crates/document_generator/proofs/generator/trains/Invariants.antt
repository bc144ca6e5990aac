use Rattle.std.proofs.Common.{◌≡◌, map, string_bytes}
use Rattle.document_generator.specs.Generated.{train_names}
use Rattle.document_generator.proofs.generator.trains.Given as goal

abbrev pub invariant-loop-train : goal.invariant-loop-train
invariant-loop-train l = map string_bytes l.found.items ≡ train_names l.train
