use Rattle.std.proofs.Common.{◌≡◌, ◌++◌, string_bytes, OnOk, subst, rules, to_z, of_z, w32}
use Rattle.std.specs.Prelude.{codes}
use Rattle.refusal_lines.specs.Marks.{change_words}
use Rattle.refusal_lines.proofs.marks.write_marks.Goals as goal

pub returns-in-Count : goal.returns-in-Count
returns-in-Count c = rw c.in-Count.is c.write_fields-in-Count.ensures

pub returns-in-Limit : goal.returns-in-Limit
returns-in-Limit c = rw c.in-Limit.is c.write_fields-in-Limit.ensures

pub returns-in-Connections : goal.returns-in-Connections
returns-in-Connections c = rw c.in-Connections.is c.write_fields-in-Connections.ensures

pub returns-in-ConnectionTrain : goal.returns-in-ConnectionTrain
returns-in-ConnectionTrain c = rw c.in-ConnectionTrain.is c.write_fields-in-ConnectionTrain.ensures

pub returns-in-ConnectionPlace : goal.returns-in-ConnectionPlace
returns-in-ConnectionPlace c = rw c.in-ConnectionPlace.is c.write_fields-in-ConnectionPlace.ensures

pub returns-in-Step : goal.returns-in-Step
returns-in-Step c =
    let kept : to_z w32 (of_z w32 c.in-Step.value) ≡ c.in-Step.value = search rules in
    rw c.in-Step.is
    (subst (λ v. OnOk c.write_change.result (string_bytes c.write_change.new.out ≡ string_bytes c.args.out.now ++ change_words (codes "23 Step table=") c.args.table c.in-Step.section c.in-Step.train c.in-Step.place v))
    kept c.write_change.ensures)
