use Rattle.std.proofs.Common.{ap, sym, ◌∙◌}
use Rattle.std.specs.Prelude.{if◌then◌else◌}
use Rattle.plain_yard.proofs.Keeping.{keeps_stands}
use Rattle.train_sim.specs.Steps.{Watched, noted}
use Rattle.train_sim.proofs.Leading.{leads_tried}
use Rattle.train_sim.proofs.playing.try_next.Goals as goal

pub returns-then-not-has_answer-clause-leads : goal.returns-then-not-has_answer-clause-leads
returns-then-not-has_answer-clause-leads g c times =
    let w : Watched = c.args.watch.now in
    leads_tried c.args.run.now.tables times c.args.run.now.yard c.try_table.new.self.yard w w c.args.run.now.lines c.try_table.new.self.lines c.try_table.result
    c.try_table.ensures.answer c.try_table.ensures.after c.try_table.ensures.adds
    (sym (ap (λ b. if b then noted w else w) (sym c.has_answer.ensures ∙ c.if-not-has_answer.true)))

pub returns-clause-leads : goal.returns-clause-leads
returns-clause-leads g c times =
    let w : Watched = c.args.watch.now in
    leads_tried c.args.run.now.tables times c.args.run.now.yard c.try_table.new.self.yard w c.note_table.new.self c.args.run.now.lines c.try_table.new.self.lines c.try_table.result
    c.try_table.ensures.answer c.try_table.ensures.after c.try_table.ensures.adds
    (c.note_table.ensures ∙ sym (ap (λ b. if b then noted w else w) (sym c.has_answer.ensures ∙ c.if-not-has_answer.false)))

pub returns-then-not-has_answer-clause-stands : goal.returns-then-not-has_answer-clause-stands
returns-then-not-has_answer-clause-stands g c = keeps_stands _ _ _ c.try_table.ensures.keeps

pub returns-clause-stands : goal.returns-clause-stands
returns-clause-stands g c = keeps_stands _ _ _ c.try_table.ensures.keeps
