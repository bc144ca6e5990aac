use Rattle.std.proofs.Common.{◌≡◌, length, rules}
use Rattle.document_origin.proofs.Alike.{is_of_alike}
use Rattle.document_origin.proofs.comparing.difference_of.Goals as goal

pub returns-then-is_same_layout : goal.returns-then-is_same_layout
returns-then-is_same_layout c =
    let D = c.args.doc.now in
    let P = c.args.plan.now in
    let trains : D.trains ≡ P.trains = search rules in
    let count : length D.tables ≡ length P.tables = search rules in
    let start : D.start ≡ P.start = search rules in
    let layout : D.layout ≡ P.layout = search rules in
    is_of_alike D P c.names_of.ensures.formed c.names_of-2.ensures.formed (record { trains = trains; count = count }) c.in_default.ensures start layout
