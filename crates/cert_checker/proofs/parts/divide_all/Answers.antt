use Rattle.std.proofs.Common.{◌++◌, List, reverse, sym, subst}
use Rattle.std.specs.Prelude.{Some}
use Rattle.std.proofs.lemmas.Result.{on_ok_weaker}
use Rattle.std.proofs.lemmas.List.Elements.{All-pop, All-append, All-same}
use Rattle.cert_checker.specs.declared.parts.Part.{Part}
use Rattle.cert_checker.specs.Cut.{IsCut, IsPart}
use Rattle.cert_checker.proofs.Dealt.{All-reverse}
use Rattle.cert_checker.proofs.parts.divide_all.Goals as goal

pub divide-requires-clause-part : goal.divide-requires-clause-part
divide-requires-clause-part c =
    (All-pop (IsPart c.args.tree.now.table.now c.args.tree.now.nodes.now) c.loop-node.pending.items c.pop.new.self.items (Some c.in-Some.part)
    c.in-Some.ensures.items c.loop-node.invariant.pending).1

pub divide-requires-clause-pending : goal.divide-requires-clause-pending
divide-requires-clause-pending c =
    (All-pop (IsPart c.args.tree.now.table.now c.args.tree.now.nodes.now) c.loop-node.pending.items c.pop.new.self.items (Some c.in-Some.part)
    c.in-Some.ensures.items c.loop-node.invariant.pending).0

pub returns-clause-further : goal.returns-clause-further
returns-clause-further c =
    on_ok_weaker c.add_pending.result
    (λ added at visits cut.
    subst (λ (ps : List Part). IsCut c.args.tree.now.table.now c.args.tree.now.nodes.now at ps visits) (sym added) (c.loop-node.invariant.further at visits cut))
    c.add_pending.ensures.added

pub returns-clause-parts : goal.returns-clause-parts
returns-clause-parts c =
    let all : Part → Type 0 = IsPart c.args.tree.now.table.now c.args.tree.now.nodes.now in
    let parts = c.loop-node.parts.items in
    let rest = reverse c.loop-node.pending.items in
    on_ok_weaker c.add_pending.result
    (λ added. All-same all c.add_pending.new.parts.items (parts ++ rest) added
    (All-append all parts rest c.loop-node.invariant.parts (All-reverse all c.loop-node.pending.items c.loop-node.invariant.pending)))
    c.add_pending.ensures.added
