use Rattle.std.proofs.Common.{◌∙◌, ◌<◌, [], ◌∷◌, ap, length, map, string_bytes, arith}
use Rattle.std.proofs.lemmas.List.{map-append, take_all}
use Rattle.document_json.proofs.OneMore.{same-more}
use Rattle.document_json.proofs.members.trains.Goals as goal

pub loop-train-preserved : goal.loop-train-preserved
loop-train-preserved c =
    let names = c.args.names.now.trains in
    let old = c.loop-train.found.items in
    let name = c.in_ok-from_str.field-0 in
    let below : c.loop-train.train < length names = omega (arith, c.loop-train-test.true, c.trains-train-end.ensures.count) in
    same-more names c.loop-train.train (map string_bytes old) _ (string_bytes name) [] below (c.in_ok-from_str.ensures.ok ∙ c.train.ensures)
    (ap (map string_bytes) c.in_ok-push.ensures.items ∙ map-append string_bytes old (name ∷ [])) c.loop-train.invariant

pub returns : goal.returns
returns c = c.loop-train.invariant ∙ take_all c.loop-train.train c.args.names.now.trains (omega (arith, c.loop-train-test.false, c.trains-train-end.ensures.count))
