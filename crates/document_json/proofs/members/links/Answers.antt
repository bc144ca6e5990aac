use Rattle.document_json.specs.Written.{link_pair, link_seen}
use Rattle.document_json.proofs.OneMore.{seen-more, made-all}
use Rattle.document_json.proofs.members.links.Goals as goal

pub loop-link-preserved : goal.loop-link-preserved
loop-link-preserved c =
    seen-more (link_pair c.args.names.now) c.args.links.now c.loop-link.link-index link_seen _ _ c.in_ok-link_names.field-0 c.link-item.result _ c.loop-link-test.true c.link-item.is
    c.in_ok-link_names.ensures c.in_ok-push.ensures.items c.loop-link.invariant

pub returns : goal.returns
returns c = made-all (link_pair c.args.names.now) c.args.links.now c.loop-link.link-index _ c.loop-link-test.false c.loop-link.invariant
