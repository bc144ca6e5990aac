use Rattle.std.proofs.Common.{ap}
use Rattle.line_service.proofs.HeardLines.{heard_more}
use Rattle.line_service.proofs.laws.pieces_make_no_difference.Goals as goal

pub returns-clause-lines : goal.returns-clause-lines
returns-clause-lines c begun first later = ap (λ h. h.lines) (heard_more begun first later)

pub returns-clause-begun : goal.returns-clause-begun
returns-clause-begun c begun first later = ap (λ h. h.begun) (heard_more begun first later)
