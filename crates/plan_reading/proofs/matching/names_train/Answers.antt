use Rattle.std.proofs.Common.{◌≡◌, ◌∙◌, Some, ap, arith, refl, sym}
use Rattle.std.specs.Prelude.{option_copied, slice_get}
use Rattle.std.proofs.lemmas.Option.{slice_get_read}
use Rattle.plan_reading.specs.Agreeing.{names_train}
use Rattle.plan_reading.proofs.matching.names_train.Goals as goal

pub returns-in-Some : goal.returns-in-Some
returns-in-Some c =
    let lookup = c.in-Some.ensures.lookup in
    let here : slice_get c.args.trains.now c.args.train ≡ Some c.in-Some.train.now = slice_get_read c.args.trains.now _ c.args.train c.in-Some.train.now refl (omega arith) lookup.1 in
    c.is_text.ensures ∙ ap (names_train (option_copied c.args.said)) (sym here)
