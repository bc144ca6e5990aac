use Rattle.std.proofs.Common.{◌≡◌, ◌++◌, length, reverse}
use Rattle.cert_checker.proofs.parts.add_pending.Given as goal

abbrev pub invariant-loop-part : goal.invariant-loop-part
invariant-loop-part l = l.parts.items ++ reverse l.pending.items ≡ l.initial.parts.items ++ reverse l.initial.pending.items

abbrev pub decreases-loop-part : goal.decreases-loop-part
decreases-loop-part l = length l.pending.items
