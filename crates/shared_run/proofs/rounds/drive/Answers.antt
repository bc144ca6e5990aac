use Rattle.std.proofs.Common.{◌∷◌, ◌∙◌, sym, true≢false, arith}
use Rattle.std.proofs.lemmas.List.Elements.{All-cons}
use Rattle.shared_run.specs.Rounds.{HasFinished}
use Rattle.shared_run.proofs.Ended.{ended_early, ended_whole}
use Rattle.shared_run.proofs.rounds.drive.Goals as goal

pub returns-then-go_all-clause-worked : goal.returns-then-go_all-clause-worked
returns-then-go_all-clause-worked g c =
    let old = c.loop-round.invariant.made in
    let now = c.go_all.ensures.asked in
    record {
      told = now.0 ∷ old.0;
      made = (_, old.2, now.1);
      ends = ended_early HasFinished c.args.rounds now.0 old.0 (let e = old.1 in omega arith) old.3 (now.2.0 c.if-go_all.true);
    }

pub loop-round-preserved : goal.loop-round-preserved
loop-round-preserved g c =
    let old = c.loop-round.invariant.made in
    let now = c.go_all.ensures.asked in
    record {
      ours = c.go_all.ensures.ours;
      made = (
        now.0 ∷ old.0,
        (let e = old.1 in omega arith),
        (_, old.2, now.1),
        All-cons (λ told. HasFinished told → ⊥) now.0 old.0 (λ over. true≢false (sym (now.2.1 over) ∙ c.if-go_all.false)) old.3,
      );
    }

pub returns-clause-worked : goal.returns-clause-worked
returns-clause-worked g c =
    let old = c.loop-round.invariant.made in
    record { told = old.0; made = old.2; ends = ended_whole HasFinished c.args.rounds old.0 (let e = old.1 in omega arith) old.3 }
