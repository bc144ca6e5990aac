use Rattle.std.proofs.Common.{ℕ, ◌∙◌, List, length, refl, sym, ap, subst, arith}
use Rattle.rail_model.specs.Yard.{Offer}
use Rattle.move_journal.specs.Printable.{AreEnough}
use Rattle.live_yard.proofs.Adding.{keeps_tables}
use Rattle.live_yard.specs.Answers.{IsOfRun}
use Rattle.live_session.specs.Answering.{IsRequestServed, IsServedText}
use Rattle.live_session.specs.News.{IsStatus}
use Rattle.live_session.specs.States.{SessionState}
use Rattle.live_session.specs.declared.start.Start.{Start}
use Rattle.live_session.proofs.Requests.{held_after, lines_counted, named_or_table, served_size}
use Rattle.live_answers.proofs.Saying.{on_ok}
use Rattle.live_session.proofs.session.Session.serve.Goals as goal

pub invariant_of-self : goal.invariant_of-self
invariant_of-self g c =
    let v = c.self.inside.yard in
    let w = c.serve-served.new.self in
    let is = c.serve-served.ensures.served in record {
      enough = subst (λ (ts : List Offer). AreEnough c.self.inside.names.now ts)
          (sym (keeps_tables v w c.args.request c.serve-served.result is))
          c.self.invariant.enough;
      tags = c.keep_tag.ensures.size ∙ c.self.invariant.tags
          ∙ sym (served_size v w c.args.request c.serve-served.result is);
    }

pub invariant_of-self-2 : goal.invariant_of-self-2
invariant_of-self-2 g c =
    let v = c.self.inside.yard in
    let w = c.serve-served.new.self in
    let is = c.serve-served.ensures.served in record {
      enough = subst (λ (ts : List Offer). AreEnough c.self.inside.names.now ts)
          (sym (keeps_tables v w c.args.request c.serve-served.result is))
          c.self.invariant.enough;
      tags = c.keep_tag.ensures.size ∙ c.self.invariant.tags
          ∙ sym (served_size v w c.args.request c.serve-served.result is);
    }

pub push_served-requires-clause-named : goal.push_served-requires-clause-named
push_served-requires-clause-named g c =
    let v = c.self.inside.yard in
    let w = c.serve-served.new.self in
    let is = c.serve-served.ensures.served in
    let of = subst (λ (s : SessionState). IsOfRun (length s.dispatch.yard.there) c.args.request)
    (sym c.self.view_is) c.requires in
    let size = sym (served_size v w c.args.request c.serve-served.result is) in
    named_or_table (length w.yard.there) v is.between c.args.request c.serve-served.result.reply
    (subst (λ (n : ℕ). IsOfRun n c.args.request) size of) is.serves

pub push_served-requires-clause-held : goal.push_served-requires-clause-held
push_served-requires-clause-held g c = λ told reply.
    let of = subst (λ (s : SessionState). IsOfRun (length s.dispatch.yard.there) c.args.request)
    (sym c.self.view_is) c.requires in
    held_after c.self.inside.yard c.serve-served.new.self c.args.request c.serve-served.result told
    c.start_of-start.ensures.settled c.serve-served.ensures.served of reply

pub push_served-requires-clause-counted : goal.push_served-requires-clause-counted
push_served-requires-clause-counted g c =
    let counted = lines_counted c.self.inside.yard c.serve-served.new.self c.args.request c.serve-served.result
    c.serve-served.ensures.served in
    omega (arith, counted, ap (λ (s : Start). s.line) c.start_of-start.ensures.start)

pub returns : goal.returns
returns g c =
    let u : SessionState = record {
      names = c.self.inside.names.now;
      document = c.self.inside.document.now;
      dispatch = c.self.inside.yard;
      tags = c.self.inside.tags;
    } in
    let t : SessionState = record {
      names = c.self.inside.names.now;
      document = c.self.inside.document.now;
      dispatch = c.serve-served.new.self;
      tags = c.keep_tag.new.tags;
    } in
    on_ok c.push_served.result _ _
    (λ said. (
      said.0,
      subst (λ (s : SessionState). IsRequestServed s c.args.tag.now c.args.request t said.0) c.self.view_is (record {
        served = c.serve-served.result;
        before = c.status-before.result;
        serves = c.serve-served.ensures.served;
        was = subst (λ (s : SessionState). IsStatus s.dispatch.yard.run.tables s.dispatch.yard.run.yard
            c.status-before.result) (sym c.self.view_is)
            c.status-before.ensures;
        same_names = refl;
        same_document = refl;
        tags = c.in_ok-keep_tag.ensures.kept;
        told = subst (λ (start : Start). IsServedText t c.args.tag.now c.args.request start c.status-before.result
            c.serve-served.result said.0)
            c.start_of-start.ensures.start said.1;
      }),
      said.2,
    )) c.push_served.ensures
