use Rattle.std.proofs.Common.{All, rules, subst, take_all}
use Rattle.document_shapes.proofs.ListWritten.{write_item, write_end}
use Rattle.document_shapes.proofs.to_tokens.write_list.Goals as goal

pub loop-item-preserved : goal.loop-item-preserved
loop-item-preserved g c =
    write_item g.T.ToTokens.stands g.T.ToTokens.in_range _ _ _ _ _ _ (search rules) (search rules) c.to_tokens.ensures.tokens c.to_tokens.ensures.in_range c.loop-item.invariant

pub returns-clause-tokens : goal.returns-clause-tokens
returns-clause-tokens g c =
    write_end g.T.ToTokens.stands g.T.ToTokens.in_range c.args.items.now _ _ _ _ c.loop-item-test.false c.end_array.ensures c.loop-item.invariant

pub returns-clause-in_range : goal.returns-clause-in_range
returns-clause-in_range g c = subst (All g.T.ToTokens.in_range) (take_all _ c.args.items.now c.loop-item-test.false) c.loop-item.invariant.in_range
