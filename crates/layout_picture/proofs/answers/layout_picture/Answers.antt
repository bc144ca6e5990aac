use Rattle.layout_picture.proofs.answers.layout_picture.Goals as goal

pub returns-then-tables_of-table : goal.returns-then-tables_of-table
returns-then-tables_of-table c = c.no_table.ensures c.args.names.now c.args.state.now

pub returns-in-Err : goal.returns-in-Err
returns-in-Err c = c.refused.ensures c.args.names.now
