use Rattle.std.proofs.Common.{length, sym, subst}
use Rattle.live_yard.specs.Answers.{IsOfRun, Serves}
use Rattle.live_yard.specs.Firing.{DispatchState}
use Rattle.live_yard.proofs.live.LiveYard.serve.Goals as goal

pub answer-reply-requires-clause-request : goal.answer-reply-requires-clause-request
answer-reply-requires-clause-request g c =
    subst (λ (v : DispatchState). IsOfRun (length v.yard.there) c.args.request) (sym c.self.view_is) c.requires

pub returns-clause-served : goal.returns-clause-served
returns-clause-served g c =
    let between : DispatchState = record { yard = c.answer-reply.new.yard; wants = c.answer-reply.new.queue.wants } in
    record {
      between = between;
      serves = subst
          (λ (v : DispatchState). Serves v c.args.request c.answer-reply.result between)
          c.self.view_is c.answer-reply.ensures.serves;
      settles = c.settle-granted.ensures.settles;
    }
