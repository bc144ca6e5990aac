use Rattle.std.proofs.Common.{◌∙◌, sym, ap, subst}
use Rattle.document_json.specs.Doc.{Doc}
use Rattle.document_json.specs.Retimed.{AreTimesOf, retimed}
use Rattle.document_json.proofs.Retimed.{parts-are, parts-retimed}
use Rattle.document_json.proofs.frame.Frame.with_times.Goals as goal

pub invariant_of-self : goal.invariant_of-self
invariant_of-self c =
    let own = c.self.inside in (
      parts-retimed own.version own.layout own.names own.tables.value.items own.times c.args.times own.start c.self.invariant.0
          (subst (λ (D : Doc). AreTimesOf D c.args.times) (sym c.self.view_is) c.requires),
      c.self.invariant.1,
    )

pub returns-clause-frame : goal.returns-clause-frame
returns-clause-frame c =
    let own = c.self.inside in
    parts-are own.version own.layout own.names own.tables.value.items own.times c.args.times own.start c.self.invariant.0
    (subst (λ (D : Doc). AreTimesOf D c.args.times) (sym c.self.view_is) c.requires)
    ∙ ap (λ (D : Doc). retimed D c.args.times) c.self.view_is

pub returns-clause-formed : goal.returns-clause-formed
returns-clause-formed c =
    let own = c.self.inside in
    (parts-retimed own.version own.layout own.names own.tables.value.items own.times c.args.times own.start c.self.invariant.0
    (subst (λ (D : Doc). AreTimesOf D c.args.times) (sym c.self.view_is) c.requires)).is
