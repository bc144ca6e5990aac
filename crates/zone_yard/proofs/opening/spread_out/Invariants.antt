use Rattle.zone_yard.proofs.Prelude.{◌≡◌, spread}
use Rattle.std.proofs.Common.{take}
use Rattle.zone_yard.proofs.opening.spread_out.Given as goal

abbrev pub invariant-loop-word : goal.invariant-loop-word
invariant-loop-word l = record {
  all : l.all.items ≡ spread (take l.word-index l.words);
}
