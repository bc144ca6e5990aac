use Rattle.refusal_sentences.proofs.states.explain_legal.Goals as goal

pub returns : goal.returns
returns c = (c.requires.within, c.requires.legal, rw (c.names_of.ensures.names, c.table_of.ensures.table, c.sections_named.ensures) at c.in_ok-text.ensures)
