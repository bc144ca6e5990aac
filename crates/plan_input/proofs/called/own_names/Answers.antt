use Rattle.std.proofs.Common.{◌∙◌, ap, map}
use Rattle.std.proofs.lemmas.Result.{IfOk-weaker}
use Rattle.document_shapes.specs.Seen.{names_seen}
use Rattle.toml.specs.Parse.{parse_document}
use Rattle.plan_input.specs.Named.{section_names}
use Rattle.plan_input.specs.Numbered.{all_names}
use Rattle.plan_input.specs.declared.numbered.Further.TheVariants.{Crossing}
use Rattle.plan_input.proofs.TextNames.{of_text}
use Rattle.plan_input.proofs.called.own_names.Goals as goal

pub returns : goal.returns
returns c =
    let more = all_names Crossing c.args.own.now in
    let lent = ap (λ names. more (map names_seen names)) c.deref.ensures.value in
    let planned = c.in_ok-planned.planned.items in
    IfOk-weaker c.all_names.result _ _
    (λ names is. of_text (parse_document c.args.plan.now) planned names.items section_names more c.in_ok-planned.ensures (is ∙ lent))
    c.all_names.ensures
