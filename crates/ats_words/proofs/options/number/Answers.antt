use Rattle.std.proofs.Common.{◌∙◌, ap, Some}
use Rattle.std.specs.Option.{option_map_or}
use Rattle.clap.specs.Words.{found_of}
use Rattle.clap.proofs.WalkLemmas.{first_value-rows}
use Rattle.ats_words.specs.Options.{number_between}
use Rattle.ats_words.proofs.options.number.Goals as goal

pub returns-in-Some-clause-exact : goal.returns-in-Some-clause-exact
returns-in-Some-clause-exact c =
    let o = c.args.option.now in
    c.number_between.ensures.exact ∙ ap (λ found. option_map_or (number_between o.least o.greatest) found (Some o.default)) (c.in-Some.ensures ∙ first_value-rows (found_of c.args.matches.now) o.name.now)

pub returns-in-None-clause-exact : goal.returns-in-None-clause-exact
returns-in-None-clause-exact c =
    let o = c.args.option.now in
    ap (λ found. option_map_or (number_between o.least o.greatest) found (Some o.default)) (c.in-None.ensures ∙ first_value-rows (found_of c.args.matches.now) o.name.now)
