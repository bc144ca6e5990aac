use Rattle.zone_machine.proofs.Prelude.{◌≡◌, ◌∙◌, sym, ap, rules, option_map, Take}
use Rattle.zone_machine.proofs.Following.{taken}
use Rattle.zone_machine.proofs.programs.zone_step.Goals as goal

pub returns-then-has_begun : goal.returns-then-has_begun
returns-then-has_begun c =
    let step : c.map.result ≡ option_map (λ z. Take z) c.first_outside-missing.result = search rules in
    step ∙ (ap (option_map (λ z. Take z)) c.first_outside-missing.ensures ∙ taken _ c.args.held.now c.args.needed.now c.requires.needed (sym c.has_begun.ensures ∙ c.if-has_begun.true))
