-- Plans with crossings that are read of texts.
use Rattle.std.specs.Prelude.{◌<◌, ℕ, List, vec_len, IsSomeAnd, IsUtf8}
use Rattle.toml.specs.Data.{Members}
use Rattle.toml.specs.Parse.{parse_document}
use Rattle.plan_document.specs.declared.plan.Plan.{Plan}
use Rattle.plan_patterns.specs.Expanded.{expanded}
use Rattle.plan_reading.specs.Said.{IsPlanOf}
use Rattle.plan_reading.specs.declared.reading.PlanRead.{PlanRead}
use Rattle.plan_crossed.specs.Crossed.{HasCrossingsOf}

-- A plan is what a text says, crossings too: the plan that its other keys say, with its crossings.
abbrev pub IsCrossedPlanOf : Members → Plan → Type 0
IsCrossedPlanOf text plan = (old : Plan) × IsPlanOf text old × HasCrossingsOf text old plan

-- A text is read right: as a plan only if it is UTF-8 and TOML, and the plan is what it says; with one fault at least otherwise.
abbrev pub IsCrossedRead : List ℕ → PlanRead → Type 0
IsCrossedRead text (PlanRead.Plan plan) = IsUtf8 text × IsSomeAnd (parse_document text) (λ document. IsCrossedPlanOf (expanded document) plan)
IsCrossedRead text (PlanRead.Faults faults) = 0 < vec_len faults

-- What the plan of a text comes to with the text's crossings: a plan, or one fault at least.
abbrev pub IsReadWith : Members → Plan → PlanRead → Type 0
IsReadWith text old (PlanRead.Plan plan) = HasCrossingsOf text old plan
IsReadWith text old (PlanRead.Faults faults) = 0 < vec_len faults
