use Rattle.std.proofs.Common.{◌≡◌, List, length, drop, get_or, replicate, refl, ap, ◌∙◌, ◌++◌}
use Rattle.rail_model.specs.declared.types.Line.{Line}
use Rattle.ticket_lines.specs.Tickets.{Mark, marks_of, all_lines}
use Rattle.ticket_lines.specs.Merging.{bare}
use Rattle.ticket_lines.proofs.Heads.{zero_at, length_zeros}
use Rattle.ticket_lines.proofs.Histories.{bare_journal, marks_low}
use Rattle.ticket_lines.proofs.merging.merged.Goals as goal

pub merge-requires : goal.merge-requires
merge-requires c =
    let z : c.as_mut_slice.result.now ≡ replicate (length c.args.own.now) 0 = c.as_mut_slice.ensures.value ∙ c.in_ok-heads.ensures in
    ap length z ∙ length_zeros (length c.args.own.now)

pub returns : goal.returns
returns c course rows =
    let z : c.as_mut_slice.result.now ≡ replicate (length c.args.own.now) 0 = c.as_mut_slice.ensures.value ∙ c.in_ok-heads.ensures in
    let marks : List Mark = marks_of course.tables course.opening course.history in
    let lines : List Line = bare (all_lines 0 marks) in
    c.in_ok-merge.ensures marks record {
      from = 0;
      rest = marks;
      whole = refl;
      own_rest = λ p d lt. ap (λ k. drop k (get_or c.args.own.now p d).items) (ap (λ l. get_or l p 0) z ∙ zero_at (length c.args.own.now) p) ∙ rows.each p d lt;
      low = marks_low course.tables course.opening (length c.args.own.now) course.history rows.low;
    }
    ∙ (ap (λ (ls : List Line). ls ++ lines) c.in_ok-lines.ensures ∙ ap (λ (ls : List Line). c.args.first.now ++ ls) (bare_journal course.tables course.opening 0 course.history))
