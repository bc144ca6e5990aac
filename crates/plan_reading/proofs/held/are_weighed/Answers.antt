use Rattle.std.proofs.Common.{◌≡◌, ◌∙◌, ap, rules, string_bytes, of_z, to_z, w64}
use Rattle.toml.specs.View.{view}
use Rattle.plan_reading.specs.Held.{are_said, stretch_of, weighed_at}
use Rattle.plan_reading.proofs.held.are_weighed.Goals as goal

pub returns : goal.returns
returns c =
    let entry = view c.args.entry.now in
    let route = c.args.route.now in
    let kept : to_z w64 (of_z w64 c.weight_taken-weight.result) ≡ c.weight_taken-weight.result = search rules in
    let weight = kept ∙ c.weight_taken-weight.ensures in
    let stretch : c.stretch_of-stretch.result ≡ stretch_of entry (string_bytes c.args.train.now) route =
    c.stretch_of-stretch.ensures ∙ ap (λ train. stretch_of entry train route) c.as_str.ensures.value in
    c.are_by_weight.ensures ∙ (λ j. are_said (weighed_at entry (weight j) (stretch j) route) c.args.shares.now)
