use Rattle.std.proofs.Common.{◌≡◌, take}
use Rattle.live_header.specs.Scan.{after_bytes}
use Rattle.live_header.proofs.scanning.Header.hear.Given as goal

abbrev pub invariant-loop-byte : goal.invariant-loop-byte
invariant-loop-byte l = l.self ≡ after_bytes l.initial.self (take l.byte-index l.bytes)
