use Rattle.document_shapes.proofs.ReadingLemmas.{reading-ok, reading-refused}
use Rattle.serde_json.specs.Errors.{IsMemory}
use Rattle.document_shapes.proofs.document.read_value.Goals as goal

pub returns-in-Ok-clause-ok : goal.returns-in-Ok-clause-ok
returns-in-Ok-clause-ok c = reading-ok _ _ c.in-Ok.ensures.ok

pub returns-else-is_memory-clause-not_json : goal.returns-else-is_memory-clause-not_json
returns-else-is_memory-clause-not_json c _ =
    let other : IsMemory c.in-Err.error → ⊥ = λ m. cc (c.is_memory.ensures.1 m) in
    reading-refused _ (c.in-Err.ensures.err other)
