use Rattle.std.proofs.Common.{◌<◌, ◌-◌, length, rules, arith, subst, below_more, eqb-true}
use Rattle.std.specs.Prelude.{slice_get}
use Rattle.std.specs.Option.{ForSome}
use Rattle.std.proofs.lemmas.Option.{slice_get_within}
use Rattle.toml.specs.View.{items_view, table_view}
use Rattle.plan_reading.specs.Said.{AgreesIn, own_of}
use Rattle.plan_reading.proofs.Named.{count_is, read_is}
use Rattle.plan_reading.proofs.agreement.tables_as_said.Goals as goal

pub loop-number-preserved : goal.loop-number-preserved
loop-number-preserved c =
    let text = table_view c.args.text.now in
    let own = own_of (items_view c.args.further.now) c.loop-number.number in
    let tables = c.args.plan.now.tables.items in
    let within : c.loop-number.number < length tables = omega arith in
    let here = rw c.own_of.ensures at (c.in_ok-agrees_in.ensures (search rules)) in
    below_more
    (λ k. ForSome (slice_get tables k) (AgreesIn text (own_of (items_view c.args.further.now) k) c.args.plan.now))
    c.loop-number.number
    c.loop-number.invariant
    (λ x at. subst (AgreesIn text own c.args.plan.now) (read_is tables c.loop-number.number c.table-item.result x within (search rules) at) here)

pub returns-then-tables-gt0 : goal.returns-then-tables-gt0
returns-then-tables-gt0 c same =
    let tables = c.args.plan.now.tables.items in
    record {
      as_many = omega (arith, count_is c.args.further.now, eqb-true (c.len-tables.result - 1) (length c.args.further.now) same);
      each = λ k x at. let within : k < length tables = slice_get_within tables k x at in c.loop-number.invariant k (omega arith) x at;
    }
