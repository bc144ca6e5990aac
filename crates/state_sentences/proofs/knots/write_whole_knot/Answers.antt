use Rattle.std.proofs.Common.{◌≡◌, ◌++◌, ◌∙◌, append_assoc, string_bytes, OnOk, subst, ap}
use Rattle.std.specs.Prelude.{codes}
use Rattle.rail_model.specs.Table.{trains}
use Rattle.state_sentences.specs.Explanation.{joined_below}
use Rattle.state_sentences.specs.KnotWords.{member_words, whole_knot_words}
use Rattle.state_sentences.proofs.knots.write_whole_knot.Goals as goal

pub returns : goal.returns
returns c =
    let N = c.args.scene.now.names.now in
    let S = c.args.sections.now in
    let T = c.args.scene.now.table.now in
    let p = c.args.scene.now.state.now in
    let before = string_bytes c.args.out.now in
    let head = codes "A knot:" in
    let members = joined_below (member_words N S T p c.args.knot.now) (trains T) in
    let end = codes " None of them can ever move.\n" in
    let whole : string_bytes c.write_members.new.out ++ end ≡ before ++ whole_knot_words N S T p c.args.knot.now =
    ap (λ front. front ++ end) (c.in_ok-write_members.ensures ∙ ap (λ front. front ++ members) c.in_ok-push_str.ensures.bytes)
    ∙ append_assoc (before ++ head) members end ∙ append_assoc before head (members ++ end) in
    subst (λ bytes. OnOk c.write_end.result (string_bytes c.write_end.new.out ≡ bytes)) whole c.write_end.ensures
