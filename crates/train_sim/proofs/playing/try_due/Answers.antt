use Rattle.std.proofs.Common.{◌≡◌, ◌+◌, List, refl, ap, subst, ◌∙◌, arith, inl, inr}
use Rattle.rail_model.specs.Yard.{Offer, Yard}
use Rattle.train_sim.specs.Steps.{Leads}
use Rattle.train_sim.proofs.Leading.{leads_same, leads_trans}
use Rattle.train_sim.proofs.playing.try_due.Goals as goal

pub loop-init : goal.loop-init
loop-init g c = record {
  kept = c.requires;
  tables = refl;
  moved = inl refl;
  leads = λ times. leads_same c.args.run.now.tables times c.args.run.now.yard c.args.watch.now c.args.run.now.lines;
}

pub loop-preserved : goal.loop-preserved
loop-preserved g c =
    let run = c.args.run.now in
    let new = c.try_next.new.run in
    let one : new.yard.tried ≡ c.loop.run.yard.tried + 1 = c.loop-test.ensures.tried in
    record {
      kept = c.try_next.ensures.kept;
      tables = c.try_next.ensures.tables ∙ c.loop.invariant.tables;
      moved = elim (c.loop.invariant.moved) [
        | inl same ↦ let before : c.loop.run.yard.tried ≡ run.yard.tried = ap (λ (y : Yard). y.tried) same in inr (omega arith)
        | inr more ↦ inr (omega arith)
      ];
      leads = λ times. leads_trans run.tables times run.yard c.loop.run.yard new.yard c.args.watch.now c.loop.watch c.try_next.new.watch run.lines c.loop.run.lines new.lines
          (c.loop.invariant.leads times)
          (subst (λ (ts : List Offer). Leads ts times c.loop.run.yard c.loop.watch c.loop.run.lines new.yard c.try_next.new.watch new.lines) c.loop.invariant.tables (c.try_next.ensures.leads times));
    }

pub returns-clause-leads : goal.returns-clause-leads
returns-clause-leads g c times =
    let run = c.args.run.now in
    let new = c.try_next.new.run in
    leads_trans run.tables times run.yard c.loop.run.yard new.yard c.args.watch.now c.loop.watch c.try_next.new.watch run.lines c.loop.run.lines new.lines (c.loop.invariant.leads times)
    (subst (λ (ts : List Offer). Leads ts times c.loop.run.yard c.loop.watch c.loop.run.lines new.yard c.try_next.new.watch new.lines) c.loop.invariant.tables (c.try_next.ensures.leads times))
