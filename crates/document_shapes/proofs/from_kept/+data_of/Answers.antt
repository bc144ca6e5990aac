use Rattle.std.proofs.Common.{◌≡◌, ◌⊎◌, ◌+◌, drop, inl, inr, string_bytes, Some, option_map, Ok, Err, sym, ap, ◌∙◌, arith, rules}
use Rattle.std.specs.Prelude.{ok_or}
use Rattle.std.proofs.lemmas.List.{drop_all}
use Rattle.json.specs.Value as kept
use Rattle.json.proofs.Trees.{view-Object as kept-Object}
use Rattle.rail_model.proofs.Firsts.{Answers-err}
use Rattle.serde_json.specs.Data.{no_members, object, put}
use Rattle.serde_json.specs.Read.{of_json, of_items, of_members}
use Rattle.serde_json.specs.View.{items_view, members_view, view}
use Rattle.serde_json.proofs.Views.{view-Object, members_view-insert_entry}
use Rattle.document_shapes.specs.declared.refused.ShapeRefused.TheVariants.{Memory, NotJson}
use Rattle.document_shapes.proofs.KeptLemmas.{is-read, refused-with, items_onto, onto-end, one_more_item, no_item, one_more_member}
use Rattle.document_shapes.proofs.from_kept.+data_of.Goals as goal

pub items_of-loop-value-preserved : goal.items_of-loop-value-preserved
items_of-loop-value-preserved t c =
    let l = c.loop-value in
    let xs = c.args.values.now in
    let v = c.in_ok-data_of.field-0 in
    let read : of_json (kept.value_view c.value-item.result) ≡ Some (view v) = is-read _ _ c.in_ok-data_of.ensures in
    l.invariant ∙ one_more_item xs l.value-index c.value-item.result (search rules) (search rules) l.found.items v read
    ∙ ap (λ vs. items_onto vs (of_items (kept.items_view (drop (l.value-index + 1) xs)))) (sym c.in_ok-push.ensures.items)

pub items_of-returns-in_err-data_of : goal.items_of-returns-in_err-data_of
items_of-returns-in_err-data_of t c =
    let l = c.loop-value in
    let xs = c.args.values.now in
    let e = c.in_err-data_of.field-0.0 in
    let whole = of_items (kept.items_view xs) in
    let answer = elim c.in_err-data_of.ensures as (λ _. (e ≡ Memory) ⊎ (ok_or whole NotJson ≡ Err e)) [
      | inl memory ↦ inl memory
      | inr refused ↦ inr (refused-with _ whole e refused (λ none. l.invariant ∙ no_item xs l.value-index c.value-item.result (search rules) (search rules) l.found.items none))
    ] in
    Answers-err Memory (λ v. items_view v.items) c.from_residual-in_err-data_of.result (ok_or whole NotJson) e c.from_residual-in_err-data_of.ensures.1 answer

pub items_of-returns : goal.items_of-returns
items_of-returns t c =
    let l = c.loop-value in
    let xs = c.args.values.now in
    let none = drop_all l.value-index xs (omega (arith, l.auto.value-index-end, c.loop-value-test.false)) in
    ap (λ o. ok_or o NotJson) (l.invariant ∙ ap (λ ys. items_onto l.found.items (of_items (kept.items_view ys))) none ∙ onto-end l.found.items)

pub members_of-loop-name-preserved : goal.members_of-loop-name-preserved
members_of-loop-name-preserved t c =
    let l = c.loop-name in
    let ms = c.args.members.now in
    let m = c.loop-name-item.result in
    let v = c.in_ok-data_of.field-0 in
    let read : of_json (kept.value_view m.1) ≡ Some (view v) = is-read _ _ c.in_ok-data_of.ensures in
    let rest = of_members (kept.members_view (drop (l.name-index + 1) ms)) in
    let key : string_bytes c.in_ok-key.key ≡ m.0.now = search rules in
    l.invariant ∙ one_more_member ms l.name-index m (search rules) (search rules) (members_view l.found.entries) v read
    ∙ ap rest (sym (ap members_view c.in_ok-insert.ensures.entries ∙ members_view-insert_entry l.found.entries c.in_ok-key.key v ∙ ap (λ k. put k (view v) (members_view l.found.entries)) key))

pub data_of-returns-in_ok-members_of-in-Object : goal.data_of-returns-in_ok-members_of-in-Object
data_of-returns-in_ok-members_of-in-Object t c =
    let found = c.in_ok-members_of-in-Object.field-0 in
    let seen : of_json (kept.value_view c.args.value.now) ≡ option_map object (of_members (kept.members_view c.deref-in-Object.result.now) no_members) =
    ap (λ v. of_json (kept.value_view v)) c.in-Object.is ∙ ap of_json (kept-Object c.in-Object.members)
    ∙ ap (λ ms. option_map object (of_members (kept.members_view ms) no_members)) (sym c.deref-in-Object.ensures.value) in
    ap (λ o. ok_or o NotJson) (seen ∙ ap (option_map object) (is-read _ _ c.in_ok-members_of-in-Object.ensures)) ∙ ap Ok (sym (view-Object found))

pub data_of-returns-in_err-members_of-in-Object : goal.data_of-returns-in_err-members_of-in-Object
data_of-returns-in_err-members_of-in-Object t c =
    let e = c.in_err-members_of-in-Object.field-0.0 in
    let whole = of_json (kept.value_view c.args.value.now) in
    let part = of_members (kept.members_view c.deref-in-Object.result.now) no_members in
    let seen : whole ≡ option_map object part =
    ap (λ v. of_json (kept.value_view v)) c.in-Object.is ∙ ap of_json (kept-Object c.in-Object.members)
    ∙ ap (λ ms. option_map object (of_members (kept.members_view ms) no_members)) (sym c.deref-in-Object.ensures.value) in
    let answer = elim c.in_err-members_of-in-Object.ensures as (λ _. (e ≡ Memory) ⊎ (ok_or whole NotJson ≡ Err e)) [
      | inl memory ↦ inl memory
      | inr refused ↦ inr (refused-with part whole e refused (λ none. seen ∙ ap (option_map object) none))
    ] in
    Answers-err Memory view c.from_residual-in_err-members_of-in-Object.result (ok_or whole NotJson) e c.from_residual-in_err-members_of-in-Object.ensures.1 answer
