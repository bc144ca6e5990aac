use Rattle.std.proofs.Common.{◌∙◌, ap, map}
use Rattle.std.proofs.lemmas.Result.{IfOk-weaker}
use Rattle.document_shapes.specs.Seen.{names_seen}
use Rattle.toml.specs.Parse.{parse_document}
use Rattle.plan_input.specs.Called.{own_names}
use Rattle.plan_input.specs.Numbered.{all_names}
use Rattle.plan_input.specs.declared.numbered.Further.TheVariants.{Added}
use Rattle.plan_input.proofs.TextNames.{of_text}
use Rattle.plan_input.proofs.called.names_by.Goals as goal

pub returns : goal.returns
returns c =
    let more = all_names Added c.args.doc.now in
    let lent = ap (λ names. more (map names_seen names)) c.deref.ensures.value in
    let own = c.in_ok-names.names.items in
    IfOk-weaker c.all_names.result _ _
    (λ all is. of_text (parse_document c.args.plan.now) own all.items (own_names c.args.own.now) more c.in_ok-names.ensures (is ∙ lent))
    c.all_names.ensures
