use Rattle.std.proofs.Common.{◌≡◌, map}
use Rattle.std.specs.Prelude.{decimal}
use Rattle.refusal_sentences.proofs.places.places_of.Given as goal

-- the words so far are the texts of the places so far
abbrev pub invariant-loop-word : goal.invariant-loop-word
invariant-loop-word l = map (λ x. x.now) l.yielded ≡ map decimal l.places.items
