use Rattle.std.proofs.Common.{◌≡◌, take}
use Rattle.std.specs.Prelude.{filter}
use Rattle.live_answers.specs.Rows.{is_one_of, of_told}
use Rattle.live_answers.proofs.why.some_of.Given as goal

abbrev pub invariant-loop-train : goal.invariant-loop-train
invariant-loop-train l = l.some.items ≡ filter (of_told (is_one_of l.away) l.tolds) (take l.train-index l.waiting)
