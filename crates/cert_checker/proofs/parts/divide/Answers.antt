use Rattle.std.proofs.Common.{◌≡◌, ◌+◌, ◌++◌, ◌∷◌, [], List, reverse, refl, sym, ◌∙◌, ap, subst, arith}
use Rattle.std.specs.Prelude.{All}
use Rattle.std.proofs.lemmas.Result.{on_ok_weaker}
use Rattle.std.proofs.lemmas.List.{reverse-append}
use Rattle.std.proofs.lemmas.List.Elements.{All-push}
use Rattle.rail_model.specs.Certificate.{IsBox}
use Rattle.rail_model.proofs.Boxes.{left_is_box, right_is_box}
use Rattle.cert_checker.specs.declared.parts.Part.{Part}
use Rattle.cert_checker.specs.Cut.{IsCut, IsDivided, IsPart}
use Rattle.cert_checker.proofs.Cutting.{divided_behind}
use Rattle.cert_checker.proofs.parts.divide.Goals as goal

pub returns-clause-further : goal.returns-clause-further
returns-clause-further c =
    let T = c.args.tree.now.table.now in
    let nodes = c.args.tree.now.nodes.now in
    let part = c.args.part in
    let left : Part = record { first = part.first + 1; ranges = c.in_ok-left.left } in
    let older = c.args.pending.now.items in
    let d : IsDivided T nodes part c.in-Some.train c.in-Some.place = c.in-Some.ensures in
    let there = d.there in
    on_ok_weaker c.open.result
    (λ pushed at visits cut.
    let right : Part = record { first = _; ranges = c.in_ok-left.right } in
    let turned : reverse c.open.new.pending.items ≡ left ∷ right ∷ reverse older =
    ap reverse pushed ∙ reverse-append (older ++ right ∷ []) (left ∷ []) ∙ ap (λ (ps : List Part). left ∷ ps) (reverse-append older (right ∷ [])) in
    subst (λ (ps : List Part). IsCut T nodes at (c.args.parts.now.items ++ ps) visits) (sym turned)
    (divided_behind T nodes c.args.parts.now.items part left right c.in-Some.train c.in-Some.place at (reverse older) visits d refl
    c.in_ok-left.ensures.0 c.in_ok-left.ensures.1 (c.requires.ends.each (part.first + 1) (omega arith) (omega (arith, there))).0 cut))
    c.open.ensures

pub returns-clause-pending : goal.returns-clause-pending
returns-clause-pending c =
    let T = c.args.tree.now.table.now in
    let nodes = c.args.tree.now.nodes.now in
    let part = c.args.part in
    let left : Part = record { first = part.first + 1; ranges = c.in_ok-left.left } in
    let d : IsDivided T nodes part c.in-Some.train c.in-Some.place = c.in-Some.ensures in
    let there = d.there in
    let is_right : IsPart T nodes (record { first = _; ranges = c.in_ok-left.right }) = record {
      boxed = subst (IsBox T) (sym c.in_ok-left.ensures.1) (right_is_box T part.ranges c.in-Some.train c.in-Some.place c.requires.part.boxed d.splits);
      first = (c.requires.ends.each (part.first + 1) (omega arith) (omega (arith, there))).1;
    } in
    let is_left : IsPart T nodes left = record {
      boxed = subst (IsBox T) (sym c.in_ok-left.ensures.0) (left_is_box T part.ranges c.in-Some.train c.in-Some.place c.requires.part.boxed d.splits);
      first = omega (arith, there);
    } in
    on_ok_weaker c.open.result
    (λ pushed.
    subst (λ (ps : List Part). All (λ p. IsPart T nodes p) ps) (sym pushed)
    (All-push (IsPart T nodes) _ left (All-push (IsPart T nodes) _ _ c.requires.pending is_right) is_left))
    c.open.ensures
