use Rattle.std.proofs.Common.{◌∙◌, ap}
use Rattle.toml.specs.View.{items_view}
use Rattle.toml.proofs.Views.{table_get}
use Rattle.plan_input.proofs.naming.entries_at.Goals as goal

pub returns-in-Some-as_array : goal.returns-in-Some-as_array
returns-in-Some-as_array c =
    let found = table_get c.get.result c.args.key.now c.args.text.now.entries c.get.ensures.value in
    let value = rw c.in-Some.is at found in
    let list = rw c.in-Some-as_array.is at c.as_array.ensures in
    ap items_view c.as_slice.ensures.value ∙ rw (← value, ← list)

pub returns-in-None-as_array : goal.returns-in-None-as_array
returns-in-None-as_array c =
    let found = table_get c.get.result c.args.key.now c.args.text.now.entries c.get.ensures.value in
    let value = rw c.in-Some.is at found in
    let list = rw c.in-None-as_array.is at c.as_array.ensures in
    rw (← value, ← list)

pub returns-in-None : goal.returns-in-None
returns-in-None c =
    let found = table_get c.get.result c.args.key.now c.args.text.now.entries c.get.ensures.value in
    rw (← rw c.in-None.is at found)
