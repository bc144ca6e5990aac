use Rattle.std.proofs.Common.{◌∙◌, ap, map, string_bytes, ◌∷◌, []}
use Rattle.std.proofs.lemmas.List.{map-append}
use Rattle.document_generator.specs.Generated.{train_name}
use Rattle.document_generator.proofs.Loops.{listed_next}
use Rattle.document_generator.proofs.generator.trains.Goals as goal

pub loop-train-preserved : goal.loop-train-preserved
loop-train-preserved c =
    listed_next train_name _ _ _ _ c.loop-train.invariant c.in_ok-train_name.ensures
    (ap (map string_bytes) c.in_ok-push.ensures.items ∙ map-append string_bytes c.loop-train.found.items (c.in_ok-train_name.field-0 ∷ []))
