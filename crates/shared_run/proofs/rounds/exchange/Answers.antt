use Rattle.std.proofs.Common.{◌∷◌, ◌∙◌, sym, true≢false, arith}
use Rattle.std.proofs.lemmas.List.Elements.{All-cons}
use Rattle.shared_run.specs.Rounds.{IsLastTurn}
use Rattle.shared_run.proofs.Ended.{ended_early, ended_whole}
use Rattle.shared_run.proofs.rounds.exchange.Goals as goal

pub returns-then-is_last-clause-turned : goal.returns-then-is_last-clause-turned
returns-then-is_last-clause-turned g c =
    let old = c.loop-round.invariant.made in
    let now = c.exchange-turn.result in
    record {
      turns = now ∷ old.0;
      made = (_, old.2, c.exchange-turn.ensures.turn);
      ends = ended_early IsLastTurn c.args.rounds now old.0 (let e = old.1 in omega arith) old.3 (c.is_last.ensures.0 c.if-is_last.true);
    }

pub loop-round-preserved : goal.loop-round-preserved
loop-round-preserved g c =
    let old = c.loop-round.invariant.made in
    let now = c.exchange-turn.result in
    let was = c.loop-round.invariant.same in
    let is = c.exchange-turn.ensures.same in
    record {
      same = (is.0 ∙ was.0, is.1 ∙ was.1);
      made = (
        now ∷ old.0,
        (let e = old.1 in omega arith),
        (_, old.2, c.exchange-turn.ensures.turn),
        All-cons (λ turn. IsLastTurn turn → ⊥) now old.0 (λ last. true≢false (sym (c.is_last.ensures.1 last) ∙ c.if-is_last.false)) old.3,
      );
    }

pub returns-clause-turned : goal.returns-clause-turned
returns-clause-turned g c =
    let old = c.loop-round.invariant.made in
    record { turns = old.0; made = old.2; ends = ended_whole IsLastTurn c.args.rounds old.0 (let e = old.1 in omega arith) old.3 }
