use Rattle.std.proofs.Common.{◌≤◌}
use Rattle.document_facts.specs.Counting.{Counts}
use Rattle.document_facts.specs.Facts.{Rises}
use Rattle.document_facts.proofs.shares.count_rises.Given as goal

abbrev pub invariant-loop-place : goal.invariant-loop-place
invariant-loop-place l = record { counted : Counts (Rises l.numbers) l.place l.rises; few : l.rises ≤ l.place }
