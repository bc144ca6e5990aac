use Rattle.std.proofs.Common.{◌≡◌, ◌++◌, string_bytes, OnOk, subst, sym}
use Rattle.std.specs.Prelude.{Option}
use Rattle.rail_model.specs.declared.types.Ask.{Ask}
use Rattle.rail_model.specs.Table.{Connection}
use Rattle.rail_model.specs.Move.{Answers}
use Rattle.rail_model.proofs.Live.{held_within}
use Rattle.state_sentences.specs.Explanation.{wait_words, reason_words}
use Rattle.state_sentences.proofs.sentences.write_reason.Goals as goal

pub train-by-requires : goal.train-by-requires
train-by-requires c = (subst (Answers c.args.scene.now.table.now c.args.scene.now.state.now c.args.train) c.in-Occupied.is c.requires.told).1.0

pub write_full-requires : goal.write_full-requires
write_full-requires c =
    let told = subst (Answers c.args.scene.now.table.now c.args.scene.now.state.now c.args.train) c.in-Full.is c.requires.told in
    record { section = told.2.0.0; train = c.requires.train; unfinished = told.0 }

pub connection_of-requires : goal.connection_of-requires
connection_of-requires c =
    let T = c.args.scene.now.table.now in
    let p = c.args.scene.now.state.now in
    let told = subst (Answers T p c.args.train) c.in-Waits.is c.requires.told in
    held_within T p c.args.train c.in-Waits.connection told.3.0

pub write_wait-requires : goal.write_wait-requires
write_wait-requires c =
    (c.args.scene.now.formed.connections c.in-Waits.connection c.connection_of.result c.connection_of.ensures.connection).other

pub returns-in-Waits : goal.returns-in-Waits
returns-in-Waits c =
    let N = c.args.scene.now.names.now in
    let S = c.args.sections.now in
    let T = c.args.scene.now.table.now in
    let p = c.args.scene.now.state.now in
    let before = string_bytes c.args.out.now in
    let waits =
    subst (λ (o : Option Connection). OnOk c.write_wait.result (string_bytes c.write_wait.new.out ≡ before ++ wait_words N T c.in-Waits.connection o))
    (sym c.connection_of.ensures.connection) c.write_wait.ensures in
    subst (λ (told : Ask). OnOk c.write_wait.result (string_bytes c.write_wait.new.out ≡ before ++ reason_words N S T p c.args.train told)) (sym c.in-Waits.is) waits
