use Rattle.std.proofs.Common.{◌∙◌, ap, arith, map, string_bytes}
use Rattle.toml.specs.View.{view}
use Rattle.plan_crossed.specs.Said.{number_among, number_said}
use Rattle.plan_crossed.proofs.Carried.{made_more, made_of}
use Rattle.plan_crossed.proofs.entries.way_numbers.Goals as goal

pub loop-value-preserved : goal.loop-value-preserved
loop-value-preserved c =
    made_more (λ v. number_said (map string_bytes c.args.names.now) (view v)) c.args.values.now c.loop-value.value-index c.value-item.result c.in_ok-way_number.field-0
    c.loop-value.found.items c.push.new.self.items (omega arith) c.value-item.is c.loop-value.invariant (c.in_ok-way_number.ensures ∙ ap (λ name. number_among name (map string_bytes c.args.names.now)) c.text_of.ensures) c.in_ok-push.ensures.items

pub returns : goal.returns
returns c = made_of (number_said (map string_bytes c.args.names.now)) c.args.values.now c.loop-value.value-index c.loop-value.found.items (omega arith) c.loop-value.invariant
