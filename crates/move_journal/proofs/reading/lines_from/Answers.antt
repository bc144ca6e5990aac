use Rattle.std.proofs.Common.{◌≡◌, ◌+◌, ◌∷◌, [], ◌++◌, arith, length, length-append, sym, subst, ap}
use Rattle.move_journal.specs.Answers.{ReadsLines}
use Rattle.move_journal.proofs.Fronts.{reads_more}
use Rattle.move_journal.proofs.reading.lines_from.Goals as goal

pub loop-rest-preserved : goal.loop-rest-preserved
loop-rest-preserved c =
    let begins = rw c.in-Numbered.is at c.head_of-head.ensures in
    let pushed : c.push.new.self.items ≡ c.loop-rest.lines.items ++ c.in-Numbered.line ∷ [] = c.in_ok-push-in-Numbered.ensures.items in
    let right : c.in-Numbered.number ≡ length c.loop-rest.lines.items + 1 = omega (arith, c.from.ensures, c.if-from-wanted.false) in
    record {
      read = subst (λ xs. ReadsLines c.args.names.now c.args.bytes.now xs c.head_of-head.result.1.now) (sym pushed)
          (reads_more _ _ c.loop-rest.lines.items _ c.in-Numbered.number c.in-Numbered.line _ c.loop-rest.invariant.read begins right);
      wanted = omega (arith, ap length pushed, length-append c.loop-rest.lines.items (c.in-Numbered.line ∷ []));
    }
