use Rattle.std.proofs.Common.{◌<◌, ◌+◌, ◌∷◌, ◌++◌, [], ℕ, List, length, get_or, sym, ap, ◌∙◌, subst, length-set}
use Rattle.rail_model.specs.declared.types.Line.{Line}
use Rattle.ticket_lines.specs.declared.tickets.TicketLine.{TicketLine}
use Rattle.ticket_lines.specs.Merging.{Row, Merges}
use Rattle.ticket_lines.proofs.Heads.{any_of, ends, goes, left, left_less}
use Rattle.ticket_lines.proofs.merging.merge.Goals as goal

pub loop-pass-smaller : goal.loop-pass-smaller
loop-pass-smaller c =
    subst (λ (hs : List ℕ). left c.args.own.now hs < left c.args.own.now c.loop-pass.heads) (sym c.take_next.ensures.heads)
    (left_less c.args.own.now c.loop-pass.heads c.in-Some.pass c.loop-pass.invariant.long c.in-Some.ensures.some.0)

pub loop-pass-preserved : goal.loop-pass-preserved
loop-pass-preserved c =
    let inv = c.loop-pass.invariant in
    let most = c.in-Some.ensures.some in
    let d : Row = any_of c.args.own.now c.in-Some.pass most.0.0 in
    let t : TicketLine = any_of (get_or c.args.own.now c.in-Some.pass d).items (get_or c.loop-pass.heads c.in-Some.pass 0) (most.0.1 d) in
    record {
      long = ap length c.take_next.ensures.heads ∙ (length-set c.loop-pass.heads c.in-Some.pass (get_or c.loop-pass.heads c.in-Some.pass 0 + 1) ∙ inv.long);
      merges = λ marks m. subst (λ (x : List ℕ × List Line). Merges c.args.own.now x.0 c.args.lines.now.items x.1 marks)
          (λ i. (sym c.take_next.ensures.heads i, sym (c.in_ok-push.ensures.items ∙ ap (λ y. c.loop-pass.lines.items ++ y ∷ []) (c.take_next.ensures.next d t)) i))
          (goes c.args.own.now c.loop-pass.heads c.args.lines.now.items c.loop-pass.lines.items marks (inv.merges marks m) c.in-Some.pass d t most inv.long);
    }

pub returns : goal.returns
returns c marks m = ends c.args.own.now c.loop-pass.heads c.args.lines.now.items c.loop-pass.lines.items marks (c.loop-pass.invariant.merges marks m) c.in_default.ensures.none
