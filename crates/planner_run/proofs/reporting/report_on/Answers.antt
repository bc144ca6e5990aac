use Rattle.std.proofs.Common.{rules, inl, inr}
use Rattle.planner_run.proofs.Weaker.{if_ok-weaker}
use Rattle.planner_run.proofs.reporting.report_on.Goals as goal

pub returns-in-Given : goal.returns-in-Given
returns-in-Given g c =
    if_ok-weaker c.given_report.result
    (λ text is. inl (record { document = c.in-Given.doc; run = c.in-Given.run'; is_run = search rules; is_report = is }))
    c.given_report.ensures

pub returns-in-Own : goal.returns-in-Own
returns-in-Own g c =
    if_ok-weaker c.own_report.result
    (λ text is. inl (record { document = c.in-Own.doc; run = c.in-Own.run'; is_run = search rules; is_report = is }))
    c.own_report.ensures

pub returns-in-Open : goal.returns-in-Open
returns-in-Open g c =
    if_ok-weaker c.open_report_of.result
    (λ text is. inr (record { document = c.in-Open.doc; why = c.in-Open.why; is_read = search rules; has_none = search rules; is_report = is }))
    c.open_report_of.ensures
