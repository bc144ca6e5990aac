use Rattle.std.proofs.Common.{ℕ, ◌+◌, ap, map}
use Rattle.rail_model.specs.declared.types.Tried.TheVariants.{Exchanged, Differs, Over}
use Rattle.live_answers.proofs.Due.{due_next, next_admits}
use Rattle.live_answers.proofs.fitting.fit_of.Goals as goal

pub returns-in-Ok-clause-fit : goal.returns-in-Ok-clause-fit
returns-in-Ok-clause-fit g c =
    let tables = map g.A.HasTable.offer c.args.tables.now in
    let table = c.requires.now in
    let next = c.in-Some.ensures.1 in (
      (
        c.in-Some.ensures.0,
        ap (λ (n : ℕ). n + 1) c.tried-table.ensures,
        due_next tables c.args.yard.now _ _ _ table next c.in-Some.ensures.0 c.is_next_due-due.ensures,
      ),
      next_admits tables c.args.yard.now _ _ Exchanged table next c.in-Ok.ensures,
    )

pub returns-in-Err-Differs-clause-fit : goal.returns-in-Err-Differs-clause-fit
returns-in-Err-Differs-clause-fit g c =
    let tables = map g.A.HasTable.offer c.args.tables.now in
    let table = c.requires.now in
    let next = c.in-Some.ensures.1 in (
      (
        c.in-Some.ensures.0,
        ap (λ (n : ℕ). n + 1) c.tried-table.ensures,
        due_next tables c.args.yard.now _ _ _ table next c.in-Some.ensures.0 c.is_next_due-due.ensures,
      ),
      next_admits tables c.args.yard.now _ _ (Differs c.in-Err-Differs.train c.in-Err-Differs.place) table next
          (rw c.in-Err-Differs.field-0-is at c.in-Err-Differs.ensures),
    )

pub returns-in-Err-Over-clause-fit : goal.returns-in-Err-Over-clause-fit
returns-in-Err-Over-clause-fit g c =
    let tables = map g.A.HasTable.offer c.args.tables.now in
    let table = c.requires.now in
    let next = c.in-Some.ensures.1 in (
      (
        c.in-Some.ensures.0,
        ap (λ (n : ℕ). n + 1) c.tried-table.ensures,
        due_next tables c.args.yard.now _ _ _ table next c.in-Some.ensures.0 c.is_next_due-due.ensures,
      ),
      next_admits tables c.args.yard.now _ _ (Over c.in-Err-Over.section c.in-Err-Over.count) table next
          (rw c.in-Err-Over.field-0-is at c.in-Err-Over.ensures),
    )
