use Rattle.std.proofs.Common.{◌∙◌, codes, refl, subst}
use Rattle.std.specs.Prelude.{IfNone, IfSome}
use Rattle.clap.specs.Words.{found_of}
use Rattle.clap.proofs.WalkLemmas.{first_value-rows}
use Rattle.planner_words.specs.Named.{IsEffort}
use Rattle.planner_words.specs.declared.orders.Effort.{Effort}
use Rattle.planner_words.specs.declared.orders.Effort.TheVariants.{Usual}
use Rattle.planner_words.proofs.reading.effort_in.Goals as goal

pub returns-in-Some-clause-named : goal.returns-in-Some-clause-named
returns-in-Some-clause-named c =
    subst (λ found. IfSome c.effort_called.result (IsEffort found)) (c.in-Some.ensures ∙ first_value-rows (found_of c.args.matches.now) (codes "effort")) c.effort_called.ensures.named

pub returns-in-Some-clause-unnamed : goal.returns-in-Some-clause-unnamed
returns-in-Some-clause-unnamed c =
    subst (λ found. IfNone c.effort_called.result ((effort : Effort) → IsEffort found effort → ⊥)) (c.in-Some.ensures ∙ first_value-rows (found_of c.args.matches.now) (codes "effort"))
    c.effort_called.ensures.unnamed

pub returns-in-None-clause-named : goal.returns-in-None-clause-named
returns-in-None-clause-named c =
    subst (λ found. IsEffort found Usual) (c.in-None.ensures ∙ first_value-rows (found_of c.args.matches.now) (codes "effort")) refl
