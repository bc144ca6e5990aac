use Rattle.std.proofs.Common.{◌∙◌, sym, ap, subst}
use Rattle.std.proofs.lemmas.Result.{IfOk-weaker}
use Rattle.svg_text.specs.Tree.{Group}
use Rattle.train_graph.specs.Layers.{IsLayer, Shows}
use Rattle.train_graph.specs.Subject.{subject_of}
use Rattle.train_graph.proofs.drawing.group_of.Goals as goal

pub returns : goal.returns
returns c =
    let subject = subject_of c.args.sheet.now in
    let shows = Shows subject c.args.layer in
    IfOk-weaker c.with.result _ (IsLayer subject c.args.layer)
    (λ (group : Group) made. record {
      class = ap (λ (g : Group). g.class) made ∙ c.class_of.ensures;
      plain = ap (λ (g : Group). g.attributes) made;
      shows = subst shows (sym (ap (λ (g : Group). g.shapes) made)) c.in_ok-draw.ensures;
    })
    c.with.ensures
