use Rattle.std.proofs.Common.{Option, sym, subst}
use Rattle.std.specs.Prelude.{ok_or}
use Rattle.serde_json.specs.Data.{Data}
use Rattle.rail_model.specs.Turns.{AnswersAs, in_turn}
use Rattle.document_shapes.specs.Raw.{doc_members}
use Rattle.document_shapes.specs.Seen.{seen_document}
use Rattle.document_shapes.specs.declared.refused.ShapeRefused.TheVariants.{Memory, NotJson}
use Rattle.document_shapes.proofs.document.read_document.Goals as goal

pub returns : goal.returns
returns c =
    subst (λ (read : Option Data). AnswersAs Memory seen_document c.read_members.result (in_turn (ok_or read NotJson) doc_members)) (sym c.in_ok-value.ensures.ok)
    c.read_members.ensures
