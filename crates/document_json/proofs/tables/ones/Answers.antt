use Rattle.std.proofs.Common.{◌∙◌, ◌<◌, [], ap, arith, false, length, refl, replicate}
use Rattle.rail_model.specs.Table.{Mission, last_of}
use Rattle.document_json.proofs.OneMore.{made-more, made-all}
use Rattle.document_json.proofs.tables.ones.Goals as goal

pub loop-train-preserved : goal.loop-train-preserved
loop-train-preserved c =
    let missions = c.args.table.now.missions in
    let below : c.loop-train.train < length missions = omega (arith, c.loop-train-test.true, c.trains_of-train-end.ensures.count) in
    made-more (λ (m : Mission). replicate (last_of m) 1) missions c.loop-train.train _ _ c.from.result _ (record { points = []; exits = false }) below refl
    (c.from.ensures ∙ c.in_ok-steps.ensures.items_if_clones_equal (λ y same. same) ∙ ap (λ n. replicate n 1) c.last_of.ensures.last) c.in_ok-push.ensures.items c.loop-train.invariant

pub returns : goal.returns
returns c =
    let missions = c.args.table.now.missions in
    made-all (λ (m : Mission). replicate (last_of m) 1) missions c.loop-train.train _ (omega (arith, c.loop-train-test.false, c.trains_of-train-end.ensures.count)) c.loop-train.invariant
