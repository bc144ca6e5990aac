use Rattle.std.proofs.Common.{List, ◌∙◌, ◌++◌, ap, ap₂, sym}
use Rattle.svg_text.specs.Tree.{Shape}
use Rattle.std.proofs.lemmas.Result.{on_ok_weaker}
use Rattle.layout_picture.specs.Areas.{striped}
use Rattle.layout_picture.proofs.Adding.{with_stripes}
use Rattle.layout_picture.proofs.sections.push_striped.Goals as goal

pub returns : goal.returns
returns c =
    let stripes = c.area_stripes-stripes.result.now in
    let onto = λ (shapes : List Shape). c.args.shapes.now.items ++ shapes in
    on_ok_weaker c.push_painted.result
    (λ pushed. pushed ∙ ap onto (sym (with_stripes c.in_ok-area.field-0 stripes (sym c.is_empty.ensures ∙ c.if-is_empty.false))
    ∙ ap₂ striped c.in_ok-area.ensures c.area_stripes-stripes.ensures))
    c.push_painted.ensures
