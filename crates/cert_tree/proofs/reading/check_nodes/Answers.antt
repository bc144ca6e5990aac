use Rattle.std.proofs.Common.{◌≡◌, ◌+◌, ◌<◌, ◌++◌, [], ◌∷◌, List, length, take, drop, get_or, sym, ◌∙◌, ap, subst, arith, length-take, length-drop, take-append-drop}
use Rattle.std.proofs.lemmas.List.{take_more, take_all}
use Rattle.rail_model.specs.declared.types.Node.{Node}
use Rattle.rail_model.specs.declared.types.Node.TheVariants.{Split}
use Rattle.cert_tree.specs.Spelling.{wanted_behind}
use Rattle.cert_tree.specs.Refused.{IsMissing}
use Rattle.cert_tree.proofs.Spell.{start, next, spelled, small_behind}
use Rattle.cert_tree.proofs.reading.check_nodes.Goals as goal

pub loop-used-init : goal.loop-used-init
loop-used-init c = record { small = omega arith; missing = start }

pub loop-used-preserved : goal.loop-used-preserved
loop-used-preserved c =
    let list = c.args.nodes.now in
    let used = c.loop-used.used in
    let n = get_or list used (Split 0 0) in
    let some : 0 < c.loop-used.wanted = omega arith in
    let more : take (used + 1) list ≡ take used list ++ n ∷ [] = take_more list used (Split 0 0) (omega arith) in
    record {
      small = omega (arith, c.behind-wanted.ensures, small_behind n c.loop-used.wanted);
      missing = subst (IsMissing (take (used + 1) list)) (sym c.behind-wanted.ensures)
          (subst (λ (f : List Node). IsMissing f (wanted_behind n c.loop-used.wanted)) (sym more) (next _ n _ some c.loop-used.invariant.missing));
    }

pub returns-then-wanted-eq0-clause-refused : goal.returns-then-wanted-eq0-clause-refused
returns-then-wanted-eq0-clause-refused c =
    let list = c.args.nodes.now in
    let used = c.loop-used.used in
    let s = spelled (take used list) c.loop-used.wanted c.loop-used.invariant.missing (omega arith) in (
      omega arith,
      (
        s.0,
        drop used list,
        sym (take-append-drop used list) ∙ ap (λ (ns : List Node). ns ++ drop used list) (sym s.1),
        omega (arith, ap length s.1, length-take used list),
        omega (arith, length-drop used list),
      ),
    )

pub returns-clause-spelled : goal.returns-clause-spelled
returns-clause-spelled c =
    subst (λ (ns : List Node). IsMissing ns 0) (take_all _ _ (omega arith))
    (subst (IsMissing (take c.loop-used.used c.args.nodes.now)) (omega arith) c.loop-used.invariant.missing)
