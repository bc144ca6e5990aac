use Rattle.std.proofs.Common.{◌≡◌, ◌++◌}
use Rattle.report_page.specs.Page.{trains_text}
use Rattle.report_page.proofs.timetable.push_trains.Given as goal

abbrev pub invariant-loop-train : goal.invariant-loop-train
invariant-loop-train l = l.out.items ≡ l.initial.out.items ++ trains_text l.report l.run l.train
