use Rattle.zone_yard.proofs.Prelude.{◌≡◌, ◌++◌, ◌∷◌, [], ◌+◌, List, length, ap, sym, ◌∙◌, arith, append_assoc, length-append, unwrap_or, Lines, moves_from}
use Rattle.ticket_lines.specs.declared.tickets.TicketLine.{TicketLine}
use Rattle.rail_model.specs.declared.types.Line.TheVariants.{Move as MoveLine}
use Rattle.rail_model.specs.Table.{point}
use Rattle.zone_yard.proofs.LinesKept.{moves_more, moves_count}
use Rattle.zone_yard.proofs.receipts.Receipts.push_moves.Goals as goal

pub push-requires : goal.push-requires
push-requires c =
    let n = c.loop-step.step in
    let now : c.loop-step.self ≡ record c.args.self.now { items = c.args.self.now.items ++ moves_from c.args.ticket c.args.table.now c.args.claim.train c.args.claim.place n } = c.loop-step.invariant in
    let items : length c.loop-step.self.items ≡ length c.args.self.now.items + n =
    ap (λ (x : Lines). length x.items) now
    ∙ (length-append c.args.self.now.items (moves_from c.args.ticket c.args.table.now c.args.claim.train c.args.claim.place n)
    ∙ ap (λ k. length c.args.self.now.items + k) (moves_count c.args.table.now c.args.claim.train c.args.claim.place c.args.ticket n)) in
    let room : c.loop-step.self.room ≡ c.args.self.now.room = ap (λ (x : Lines). x.room) now in
    let fits = c.requires.room in
    let lt = c.loop-step-test.true in omega arith

pub loop-step-preserved : goal.loop-step-preserved
loop-step-preserved c =
    let n = c.loop-step.step in
    let T = c.args.table.now in
    let i = c.args.claim.train in
    let at = c.args.claim.place in
    let k = c.args.ticket in
    let first = c.args.self.now.items in
    let line : TicketLine = record { ticket = k + n; line = MoveLine i (unwrap_or (point T i (at + n)) 0) (point T i (at + n + 1)) } in
    let now : c.loop-step.self ≡ record c.args.self.now { items = first ++ moves_from k T i at n } = c.loop-step.invariant in
    let pushed : record { ticket = k + c.from.result; line = c.move_line-line.result } ≡ line = (λ j. record { ticket = k + c.from.ensures j; line = c.move_line-line.ensures j }) in
    let items : c.loop-step.self.items ++ record { ticket = k + c.from.result; line = c.move_line-line.result } ∷ [] ≡ first ++ moves_from k T i at (n + 1) =
    (λ j. (now j).items ++ pushed j ∷ []) ∙ (append_assoc first (moves_from k T i at n) (line ∷ []) ∙ ap (λ (l : List TicketLine). first ++ l) (sym (moves_more T i at k n))) in
    c.push.ensures ∙ (λ j. record { items = items j; room = (now j).room })
