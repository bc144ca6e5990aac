use Rattle.toml.proofs.Views.{table_get}
use Rattle.plan_entries.proofs.entries.Entry.value.Goals as goal

pub returns-in-Some : goal.returns-in-Some
returns-in-Some c =
    let found = table_get c.get.result c.args.key.now c.in-Some.keys.now.entries c.get.ensures.value in
    rw c.in-Some.is found
