-- What a page says of certificates, told by why none were found.
use Rattle.std.proofs.Common.{List, String, Vec, Global}
use Rattle.document_certificates.specs.Certified.{HasNone}
use Rattle.document_certificates.specs.declared.uncertified.Uncertified.{Uncertified}
use Rattle.document_certificates.specs.declared.uncertified.Uncertified.TheVariants.{Memory, Stuck as StuckAt, GaveUp}
use Rattle.document_json.specs.Doc.{Doc}
use Rattle.report_page.specs.declared.writing.Verdict.{Verdict}
use Rattle.report_page.specs.declared.writing.Verdict.TheVariants.{Certified, Stuck, Undecided}
use Rattle.planner_run.specs.Reporting.{IsVerdictOn, SaysWhyNot}

module _ (D : Doc) (names : List (Vec (String Global) Global)) where
  pub verdict_said : (why : Uncertified) (verdict : Verdict) → HasNone D 1000000 why → SaysWhyNot D names why verdict → IsVerdictOn D names verdict
  verdict_said why (Stuck lines) none says = record { why = why; has_none = none; says = says }
  verdict_said why (Undecided lines) none says = record { why = why; has_none = none; says = says }
  verdict_said (StuckAt t p) (Certified sizes) none says = absurd says
  verdict_said (GaveUp t nodes) (Certified sizes) none says = absurd says
  verdict_said Memory (Certified sizes) none says = absurd says
