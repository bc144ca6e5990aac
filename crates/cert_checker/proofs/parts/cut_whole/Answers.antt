use Rattle.std.proofs.Common.{◌++◌, ◌∷◌, [], List, ◌≡◌, reverse, sym, ap, subst, ◌∙◌}
use Rattle.std.proofs.lemmas.List.Elements.{All-nil, All-cons, All-same}
use Rattle.cert_checker.specs.declared.parts.Part.{Part}
use Rattle.cert_checker.specs.Cut.{IsCut, IsPart, part_visits}
use Rattle.cert_checker.proofs.Cutting.{one_part}
use Rattle.cert_checker.proofs.parts.cut_whole.Goals as goal

pub divide_all-requires-clause-pending : goal.divide_all-requires-clause-pending
divide_all-requires-clause-pending c =
    let part : Part → Type 0 = IsPart c.args.tree.now.table.now c.args.tree.now.nodes.now in
    let whole = c.args.whole in
    let one : c.push.new.self.items ≡ whole ∷ [] = c.in_ok-push.ensures.items ∙ ap (λ (ps : List Part). ps ++ whole ∷ []) c.new-pending.ensures.items in
    All-same part c.push.new.self.items (whole ∷ []) one (All-cons part whole [] c.requires.whole (All-nil part))

pub divide_all-requires-clause-parts : goal.divide_all-requires-clause-parts
divide_all-requires-clause-parts c =
    let part : Part → Type 0 = IsPart c.args.tree.now.table.now c.args.tree.now.nodes.now in
    All-same part c.new-parts.result.items [] c.new-parts.ensures.items (All-nil part)

pub returns-clause-cut : goal.returns-clause-cut
returns-clause-cut c =
    let T = c.args.tree.now.table.now in
    let nodes = c.args.tree.now.nodes.now in
    let whole = c.args.whole in
    let one : c.push.new.self.items ≡ whole ∷ [] = c.in_ok-push.ensures.items ∙ ap (λ (ps : List Part). ps ++ whole ∷ []) c.new-pending.ensures.items in
    let none : c.new-parts.result.items ≡ [] = c.new-parts.ensures.items in
    c.in_ok-divide_all.ensures.further 0 (part_visits nodes whole)
    (subst (λ (ps : List Part). IsCut T nodes 0 ps (part_visits nodes whole)) (sym (λ k. none k ++ reverse (one k))) (one_part T nodes whole c.requires.first))
