use Rattle.cert_maker.proofs.Common.{◌≡◌, ℕ, ◌+◌, ◌-◌, ◌<◌, List, length, take, drop, get_or, sym, subst, arith, length-take, take_more, Node, Split}
use Rattle.cert_tree.specs.Spelling.{wanted_behind}
use Rattle.cert_tree.specs.Refused.{IsMissing}
use Rattle.cert_tree.proofs.Spell.{start, next, spelled, small_behind}
use Rattle.cert_maker.proofs.Pieces.{piece_of}
use Rattle.cert_maker.proofs.trail.piece_end.Goals as goal

pub loop-passed-init : goal.loop-passed-init
loop-passed-init c = record { some = omega arith; small = omega arith; missing = start }

-- one node more is passed
grown : (list : List Node) (passed wanted now : ℕ) → passed < length list → 0 < wanted → IsMissing (take passed list) wanted →
    now ≡ wanted_behind (get_or list passed (Split 0 0)) wanted → IsMissing (take (passed + 1) list) now
grown list passed wanted now within some missing same =
    let n = get_or list passed (Split 0 0) in
    subst (IsMissing (take (passed + 1) list)) (sym same)
    (subst (λ (f : List Node). IsMissing f (wanted_behind n wanted)) (sym (take_more list passed (Split 0 0) within)) (next _ n _ some missing))

pub loop-passed-preserved : goal.loop-passed-preserved
loop-passed-preserved c =
    let list = take (c.min-bound.result - c.args.at) (drop c.args.at c.args.nodes.now) in
    record {
      some = omega (arith, c.if-wanted-eq0.false);
      small = omega (arith, c.behind-wanted.ensures, small_behind (get_or list c.loop-passed.passed (Split 0 0)) c.loop-passed.wanted);
      missing = grown list c.loop-passed.passed c.loop-passed.wanted c.behind-wanted.result (omega arith) (omega arith) c.loop-passed.invariant.missing c.behind-wanted.ensures;
    }

pub returns-then-wanted-eq0 : goal.returns-then-wanted-eq0
returns-then-wanted-eq0 c =
    let nodes = c.args.nodes.now in
    let at = c.args.at in
    let passed = c.loop-passed.passed in
    let list = take (c.min-bound.result - at) (drop at nodes) in
    let s = spelled (take (passed + 1) list) c.behind-wanted.result
    (grown list passed c.loop-passed.wanted c.behind-wanted.result (omega arith) (omega arith) c.loop-passed.invariant.missing c.behind-wanted.ensures)
    c.if-wanted-eq0.true in
    piece_of nodes at (c.min-bound.result - at) passed s.0 (omega arith) s.1

pub behind-wanted-requires : goal.behind-wanted-requires
behind-wanted-requires c =
    record {
      some = omega arith;
      few = omega (arith, length-take (c.min-bound.result - c.args.at) (drop c.args.at c.args.nodes.now), c.min-bound.ensures);
    }
