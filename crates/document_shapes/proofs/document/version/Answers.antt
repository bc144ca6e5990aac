use Rattle.std.proofs.Common.{sym, ap, ◌∙◌, arith}
use Rattle.rail_model.specs.Turns.{in_turn}
use Rattle.document_shapes.specs.Raw.{known_version}
use Rattle.document_shapes.proofs.WrittenBack.{known}
use Rattle.document_shapes.proofs.document.version.Goals as goal

pub returns-then-version-le-LATEST_VERSION : goal.returns-then-version-le-LATEST_VERSION
returns-then-version-le-LATEST_VERSION c =
    sym (ap (λ r. in_turn r known_version) (sym c.in_ok-version.ensures) ∙ known c.in_ok-version.version (omega arith) (omega arith))
