use Rattle.std.proofs.Common.{◌≡◌, ◌∙◌, ◌<◌, ◌++◌, ℕ, List, string_bytes, ap, subst, sym}
use Rattle.std.proofs.lemmas.List.{length-map}
use Rattle.std.proofs.lemmas.Result.{on_ok_weaker}
use Rattle.std.specs.Prelude.{All, codes, decimal, length}
use Rattle.document_json.specs.Doc.{names_of, table_at}
use Rattle.rail_model.specs.Names.{Names}
use Rattle.rail_model.specs.Table.{trains}
use Rattle.refusal_meanings.specs.HeldPoints.{held_points, points_words}
use Rattle.state_sentences.specs.Sections.{section_words}
use Rattle.refusal_meanings.proofs.Held.{points_within}
use Rattle.refusal_meanings.proofs.Joined.{parts_joined}
use Rattle.refusal_meanings.proofs.illegal.write_over.Goals as goal

pub write_points-requires : goal.write_points-requires
write_points-requires c =
    let D = c.args.placed.now.doc.now in
    let t = c.args.placed.now.table in
    let T = table_at D t in
    let s = c.args.section in
    let many : length c.names_of.result.now.points ≡ length D.layout.points =
    ap (λ N. length N.points) c.names_of.ensures.names ∙ length-map D.layout.points (λ q. q.name) in
    let points : c.deref.result.now ≡ held_points T s (trains T) =
    c.deref.ensures.value ∙ rw (c.table_of.ensures.table) at c.in_ok-points.ensures in
    let all = points_within T s (length D.layout.points) (c.args.placed.now.points) (trains T) in
    subst (λ n. All (λ q. q < n) c.deref.result.now) (sym many) (subst (λ ps. All (λ q. q < length D.layout.points) ps) (sym points) all)

pub returns : goal.returns
returns c =
    let D = c.args.placed.now.doc.now in
    let T = table_at D c.args.placed.now.table in
    let held = held_points T c.args.section (trains T) in
    let said = string_bytes c.push_section.new.out in
    let points : c.deref.result.now ≡ held = c.deref.ensures.value ∙ rw (c.table_of.ensures.table) at c.in_ok-points.ensures in
    let third : string_bytes c.write_points.new.out ≡ said ++ points_words (names_of D) held =
    c.in_ok-write_points.ensures ∙ ap (λ (ps : List ℕ). said ++ points_words c.names_of.result.now ps) points
    ∙ ap (λ (N : Names). said ++ points_words N held) c.names_of.ensures.names in
    let whole =
    parts_joined (string_bytes c.args.out.now) (codes "they take ") (decimal c.args.count) (codes " of ")
    (section_words c.args.placed.now.sections.now c.args.section) (points_words (names_of D) held) (codes ", whose limit is ") (decimal c.args.limit)
    (string_bytes c.write.new.self) said (string_bytes c.write_points.new.out) c.in_ok-write.ensures.bytes c.in_ok-push_section.ensures third in
    on_ok_weaker c.write-2.result (λ bytes. bytes ∙ whole) c.write-2.ensures.bytes
