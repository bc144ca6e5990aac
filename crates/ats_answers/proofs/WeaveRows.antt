-- Worked rows: whom a drawn number means, and turns up to an entry.
use Rattle.std.proofs.Common.{◌≡◌, [], ◌∷◌, map, refl}
use Rattle.rail_model.specs.declared.types.Ask.TheVariants.{Yes}
use Rattle.rail_model.specs.declared.types.Reply.TheVariants.{Driver}
use Rattle.rail_model.specs.Yard.{control}
use Rattle.ats_answers.specs.Weaving.{drawn_actor, woven}
use Rattle.accepted_documents.proofs.Samples.{good}

-- of two trains each has its number, and the number after them is the control's
actors : map (drawn_actor 2) (0 ∷ 1 ∷ 2 ∷ 3 ∷ 4 ∷ 5 ∷ []) ≡ 0 ∷ 1 ∷ control ∷ 0 ∷ 1 ∷ control ∷ []
actors = refl

-- the only train boards, glances, takes a zone, reads the table's number and its next point, and then is granted its step
not_yet : (woven good 0 8).history ≡ []
not_yet = refl

granted : (woven good 0 9).history ≡ record { who = 0; reply = Driver Yes } ∷ []
granted = refl
