use Rattle.std.proofs.Common.{◌∙◌, List, [], ◌∷◌, ◌++◌, length, map, flat_map, ap, subst}
use Rattle.std.proofs.lemmas.Result.{on_ok_weaker}
use Rattle.svg_text.specs.Tree.{Shape}
use Rattle.rail_model.specs.Layout.{Link, point_names}
use Rattle.layout_frame.specs.Legend.{AddsLegend}
use Rattle.layout_frame.specs.Spots.{words_of}
use Rattle.layout_picture.specs.declared.layers.Layer.TheVariants as layer
use Rattle.rail_model.specs.Checks.{below}
use Rattle.layout_picture.specs.Areas.{area_of, stripes_over}
use Rattle.layout_picture.specs.Marks.{dot_at}
use Rattle.layout_picture.specs.Drawn.{AreLinkLines, ground_of, subject_of}
use Rattle.layout_picture.proofs.Adding.{all_added}
use Rattle.layout_picture.proofs.Layering.{of_layer, of_words}
use Rattle.layout_picture.proofs.picture.draw.Goals as goal

pub returns-in-Ground : goal.returns-in-Ground
returns-in-Ground c =
    let frame = c.args.view.now.frame.now in
    let onto = λ (shapes : List Shape). shapes ++ ground_of frame.grid.width frame.height ∷ [] in
    of_layer (subject_of c.args.view.now) c.args.layer layer.Ground _ c.push_ground.result c.in-Ground.is
    (on_ok_weaker c.push_ground.result (λ pushed. pushed ∙ ap onto c.requires) c.push_ground.ensures)

pub returns-in-Points : goal.returns-in-Points
returns-in-Points c =
    let onto = λ (shapes : List Shape). shapes ++ map dot_at c.deref.result.now in
    of_layer (subject_of c.args.view.now) c.args.layer layer.Points _ c.push_dots.result c.in-Points.is
    (on_ok_weaker c.push_dots.result (λ pushed. pushed ∙ ap onto c.requires ∙ ap (map dot_at) c.deref.ensures.value)
    c.push_dots.ensures)

pub returns-in-Links : goal.returns-in-Links
returns-in-Links c =
    let here = λ (links : List Link). AreLinkLines c.args.view.now.frame.now.spots.items links c.push_links.new.shapes.items in
    of_layer (subject_of c.args.view.now) c.args.layer layer.Links _ c.push_links.result c.in-Links.is
    (on_ok_weaker c.push_links.result (λ adds. subst here c.links.ensures.links (all_added _ _ _ c.requires adds))
    c.push_links.ensures)

pub returns-in-Sections : goal.returns-in-Sections
returns-in-Sections c =
    let view = c.args.view.now in
    let all = map (area_of view.layout.now view.scene.now.table.now view.frame.now.spots.items view.frame.now.grid.across) (below (length view.scene.now.table.now.sections)) in
    of_layer (subject_of view) c.args.layer layer.Sections _ c.push_areas.result c.in-Sections.is
    (on_ok_weaker c.push_areas.result (λ pushed. pushed ∙ ap (λ (shapes : List Shape). shapes ++ all) c.requires) c.push_areas.ensures)

pub returns-in-Stripes : goal.returns-in-Stripes
returns-in-Stripes c =
    let view = c.args.view.now in
    let all = flat_map (stripes_over view.layout.now view.scene.now.table.now view.frame.now.spots.items view.frame.now.grid.across) (below (length view.scene.now.table.now.sections)) in
    of_layer (subject_of view) c.args.layer layer.Stripes _ c.push_stripes.result c.in-Stripes.is
    (on_ok_weaker c.push_stripes.result (λ pushed. pushed ∙ ap (λ (shapes : List Shape). shapes ++ all) c.requires) c.push_stripes.ensures)

pub returns-in-Circle : goal.returns-in-Circle
returns-in-Circle c =
    of_layer (subject_of c.args.view.now) c.args.layer layer.Circle _ c.push_waits.result c.in-Circle.is
    (on_ok_weaker c.push_waits.result (λ adds. all_added _ _ _ c.requires adds) c.push_waits.ensures)

pub returns-in-Numbers : goal.returns-in-Numbers
returns-in-Numbers c =
    of_layer (subject_of c.args.view.now) c.args.layer layer.Numbers _ c.push_numbers.result c.in-Numbers.is (of_words c.push_numbers.result)

pub returns-in-Arrows : goal.returns-in-Arrows
returns-in-Arrows c =
    of_layer (subject_of c.args.view.now) c.args.layer layer.Arrows _ c.push_arrows.result c.in-Arrows.is
    (on_ok_weaker c.push_arrows.result (λ adds. all_added _ _ _ c.requires adds) c.push_arrows.ensures)

pub returns-in-Names : goal.returns-in-Names
returns-in-Names c =
    let onto = λ (shapes : List Shape). words_of shapes ++ point_names c.args.view.now.layout.now in
    of_layer (subject_of c.args.view.now) c.args.layer layer.Names _ c.push_point_names.result c.in-Names.is
    (on_ok_weaker c.push_point_names.result (λ pushed. pushed ∙ ap onto c.requires) c.push_point_names.ensures)

pub returns-in-Trains : goal.returns-in-Trains
returns-in-Trains c =
    of_layer (subject_of c.args.view.now) c.args.layer layer.Trains _ c.push_train_names.result c.in-Trains.is (of_words c.push_train_names.result)

pub returns-in-Legend : goal.returns-in-Legend
returns-in-Legend c =
    let view = c.args.view.now in
    let legend = λ (shapes : List Shape). AddsLegend view.sections.now view.scene.now.table.now (words_of shapes) (words_of c.push_legend.new.shapes.items) in
    of_layer (subject_of view) c.args.layer layer.Legend _ c.push_legend.result c.in-Legend.is
    (on_ok_weaker c.push_legend.result (λ adds. subst legend c.requires adds) c.push_legend.ensures)

pub returns-in-Heading : goal.returns-in-Heading
returns-in-Heading c =
    of_layer (subject_of c.args.view.now) c.args.layer layer.Heading _ c.push_label.result c.in-Heading.is (of_words c.push_label.result)
