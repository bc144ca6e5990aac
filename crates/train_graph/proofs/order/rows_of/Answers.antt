use Rattle.std.proofs.Common.{List, get_or, arith, subst, sym}
use Rattle.std.specs.Prelude.{Option}
use Rattle.run_timetable.specs.declared.run.Step.{Step}
use Rattle.train_graph.specs.Rows.{HasStarts, HasTargets, IsOnce}
use Rattle.train_graph.proofs.Rows.{if_some_more, once_of_all, rows_of_all}
use Rattle.train_graph.proofs.order.rows_of.Goals as goal

pub returns-clause-rows : goal.returns-clause-rows
returns-clause-rows c =
    let begun = c.push_starts.new.points.items in
    let found = c.push_targets.new.points.items in
    let targets = c.in_ok-push_targets.ensures in
    let starts = subst (λ (starts : List (Option _)). HasStarts begun starts) c.deref-2.ensures.value c.in_ok-push_starts.ensures.all in
    rows_of_all c.args.run.now found c.sort_by_key.new.self.items c.truncate.new.self.items
    (λ k d lt. if_some_more begun found targets.adds (get_or c.args.run.now.starts.items k d) (starts k d lt))
    (subst (λ (steps : List Step). HasTargets found steps) c.deref-3.ensures.value targets.all) c.sort_by_key.ensures.permutation c.truncate.ensures.items

pub returns-clause-once : goal.returns-clause-once
returns-clause-once c =
    let none : IsOnce c.new-rows.result.items = subst IsOnce (sym c.new-rows.ensures.items) (λ p. omega arith) in
    once_of_all c.push_targets.new.points.items c.sort_by_key.new.self.items c.truncate.new.self.items
    (c.in_ok-push_targets.ensures.adds.once (c.in_ok-push_starts.ensures.adds.once none)) c.sort_by_key.ensures.permutation c.truncate.ensures.items
