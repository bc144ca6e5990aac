use Rattle.std.proofs.Common.{◌++◌, ◌∷◌, [], Option, length-append, map, sym, ap, ◌∙◌, arith}
use Rattle.std.proofs.lemmas.List.{append-nil}
use Rattle.std.specs.Prelude.{option_to_list}
use Rattle.rail_model.specs.declared.types.Line.{Line}
use Rattle.plain_yard.proofs.Keeping.{counted_tried, few_moves}
use Rattle.plain_yard.proofs.lines.try_line.Goals as goal

pub push_line-requires : goal.push_line-requires
push_line-requires g c =
    let tables = map g.A.HasTable.offer c.args.tables.now in
    let y = c.args.yard.now in
    let lines = c.args.lines.now.items in
    let tried = c.try_table-tried.ensures in
    let few = few_moves tables c.try_table-tried.new.yard tried.stands tried.formed in
    let line = ap (λ (l : Option Line). lines ++ option_to_list l) (c.in-Some.ensures tables y (omega (arith, c.tried-table.ensures))) in
    let counted = counted_tried tables y c.try_table-tried.new.yard c.try_table-tried.result lines (lines ++ c.in-Some.line ∷ []) c.requires.counted tried.after line in
    omega (arith, few, counted, length-append lines (c.in-Some.line ∷ []), tried.stands.tried, c.requires.are.few, c.requires.room)

pub returns-in-Some-clause-adds : goal.returns-in-Some-clause-adds
returns-in-Some-clause-adds g c =
    let tables = map g.A.HasTable.offer c.args.tables.now in
    c.push_line.ensures.items ∙ ap (λ (l : Option Line). c.args.lines.now.items ++ option_to_list l) (c.in-Some.ensures tables c.args.yard.now (omega (arith, c.tried-table.ensures)))

pub returns-in-Some-clause-ready : goal.returns-in-Some-clause-ready
returns-in-Some-clause-ready g c =
    let tables = map g.A.HasTable.offer c.args.tables.now in
    record {
      are = c.requires.are;
      stands = c.try_table-tried.ensures.stands;
      counted = counted_tried tables c.args.yard.now c.try_table-tried.new.yard c.try_table-tried.result c.args.lines.now.items _ c.requires.counted c.try_table-tried.ensures.after (returns-in-Some-clause-adds g c);
      room = omega (arith, c.push_line.ensures.room, c.requires.room);
    }

pub returns-in_default-clause-adds : goal.returns-in_default-clause-adds
returns-in_default-clause-adds g c =
    let tables = map g.A.HasTable.offer c.args.tables.now in
    sym (append-nil c.args.lines.now.items) ∙ ap (λ (l : Option Line). c.args.lines.now.items ++ option_to_list l) (c.in_default.ensures tables c.args.yard.now (omega (arith, c.tried-table.ensures)))

pub returns-in_default-clause-ready : goal.returns-in_default-clause-ready
returns-in_default-clause-ready g c =
    let tables = map g.A.HasTable.offer c.args.tables.now in
    record {
      are = c.requires.are;
      stands = c.try_table-tried.ensures.stands;
      counted = counted_tried tables c.args.yard.now c.try_table-tried.new.yard c.try_table-tried.result c.args.lines.now.items _ c.requires.counted c.try_table-tried.ensures.after (returns-in_default-clause-adds g c);
      room = c.requires.room;
    }
