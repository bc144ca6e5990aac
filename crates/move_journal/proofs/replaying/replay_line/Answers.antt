use Rattle.std.proofs.Common.{refl}
use Rattle.std.proofs.lemmas.Bool.{false≢true}
use Rattle.move_journal.proofs.replaying.replay_line.Goals.{in-Table, in-KeptDiffers, in-KeptOver}
use Rattle.move_journal.proofs.replaying.replay_line.Goals as goal

pub returns-then-replay_table-clause-right : goal.returns-then-replay_table-clause-right
returns-then-replay_table-clause-right g c = elim c.match-line.branch [
  | in-Table w ↦
      let right = rw w.table-is at c.if-replay_table.ensures.right in
      let after = rw w.table-is at c.if-replay_table.ensures.after in
      rw w.in-Table.is (right.0 refl, after refl)
  | in-KeptDiffers w ↦
      let right = rw w.table-is at c.if-replay_table.ensures.right in
      let after = rw w.table-is at c.if-replay_table.ensures.after in
      rw w.in-KeptDiffers.is (right.0 refl, after refl)
  | in-KeptOver w ↦
      let right = rw w.table-is at c.if-replay_table.ensures.right in
      let after = rw w.table-is at c.if-replay_table.ensures.after in
      rw w.in-KeptOver.is (right.0 refl, after refl)
]

pub returns-else-replay_table-clause-bad : goal.returns-else-replay_table-clause-bad
returns-else-replay_table-clause-bad g c = elim c.match-line.branch [
  | in-Table w ↦
      let right = rw w.table-is at c.if-replay_table.ensures.right in
      rw w.in-Table.is (refl, λ h. false≢true (right.1 h))
  | in-KeptDiffers w ↦
      let right = rw w.table-is at c.if-replay_table.ensures.right in
      rw w.in-KeptDiffers.is (refl, λ h. false≢true (right.1 h))
  | in-KeptOver w ↦
      let right = rw w.table-is at c.if-replay_table.ensures.right in
      rw w.in-KeptOver.is (refl, λ h. false≢true (right.1 h))
]
