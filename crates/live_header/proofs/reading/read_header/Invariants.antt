use Rattle.std.proofs.Common.{◌≡◌, ℕ, ◌-◌, ◌≤◌, List, length}
use Rattle.std.specs.Io.KnownBytes.{Consumes}
use Rattle.live_header.specs.Scan.{after_bytes, started}
use Rattle.live_header.proofs.reading.read_header.Given as goal

abbrev pub invariant-loop-heard : goal.invariant-loop-heard
invariant-loop-heard g l = (bytes : List ℕ)
    × Consumes (g.S.Source.left l.fn.source) (g.S.Source.left l.source) bytes
    × (l.header ≡ after_bytes (started l.fn.document.items) bytes)
    × (length bytes ≡ l.heard)
    × (l.heard ≤ 16777217)
    × (g.S.Source.faults l.fn.source ≤ g.S.Source.faults l.source)

abbrev pub decreases-loop-heard : goal.decreases-loop-heard
decreases-loop-heard g l = 16777217 - l.heard
