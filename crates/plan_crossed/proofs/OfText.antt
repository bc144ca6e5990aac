-- Plans with crossings, of their texts.
use Rattle.std.proofs.Common.{◌≡◌, sym, subst, ℕ, List, Some}
use Rattle.std.specs.Prelude.{Option, IsSomeAnd}
use Rattle.toml.specs.Data.{Members}
use Rattle.toml.specs.Parse.{parse_document}
use Rattle.plan_document.specs.declared.plan.Plan.{Plan}
use Rattle.plan_patterns.specs.Expanded.{expanded}
use Rattle.plan_reading.specs.Said.{IsPlanOf, IsPlanRead}
use Rattle.plan_reading.specs.declared.reading.PlanRead.{PlanRead}
use Rattle.plan_crossed.specs.Read.{IsCrossedPlanOf, IsCrossedRead, IsReadWith}

-- what the plan of a text comes to with the crossings of the text's keys is how the text is read
pub crossed_of : (text : List ℕ) (old : Plan) (document : Members) (read : PlanRead) → IsPlanRead text (PlanRead.Plan old)
    → parse_document text ≡ Some document → IsReadWith (expanded document) old read → IsCrossedRead text read
crossed_of text old document (PlanRead.Plan plan) was is more =
    let planned = subst (λ (o : Option Members). IsSomeAnd o (λ d. IsPlanOf (expanded d) old)) is was.1 in
    (was.0, subst (λ (o : Option Members). IsSomeAnd o (λ d. IsCrossedPlanOf (expanded d) plan)) (sym is) (old, planned, more))
crossed_of text old document (PlanRead.Faults faults) was is told = told
