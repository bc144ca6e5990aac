use Rattle.toml.specs.View.{table_view}
use Rattle.plan_crossed.proofs.OfText.{crossed_of}
use Rattle.plan_crossed.proofs.reading.read_text.Goals as goal

pub returns-in_ok-read-in-Ok : goal.returns-in_ok-read-in-Ok
returns-in_ok-read-in-Ok c =
    crossed_of c.args.text.now c.args.plan (table_view c.in-Ok.table) c.in_ok-read-in-Ok.read c.requires c.in-Ok.ensures.ok
    c.in_ok-read-in-Ok.ensures
