use Rattle.std.proofs.Common.{◌≡◌, ◌++◌, ◌∷◌, string_bytes, take}
use Rattle.std.specs.Prelude.{decimal, flat_map}
use Rattle.refusal_lines.proofs.makers.write_places.Given as goal

abbrev pub invariant-loop-place : goal.invariant-loop-place
invariant-loop-place l = string_bytes l.out ≡ string_bytes l.initial.out ++ flat_map (λ q. 44 ∷ decimal q) (take l.place-index l.others)
