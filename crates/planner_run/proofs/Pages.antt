-- Pages of what they show, from facts on each part of it.
use Rattle.std.proofs.Common.{◌≡◌, ℕ, false, List, Some, None, String, Vec, Global}
use Rattle.std.specs.Prelude.{option_map}
use Rattle.document_certificates.specs.declared.uncertified.Uncertified.{Uncertified}
use Rattle.document_json.specs.Doc.{Doc}
use Rattle.report_page.specs.Page.{IsPage}
use Rattle.report_page.specs.declared.writing.Report.{Report}
use Rattle.run_timetable.specs.declared.run.Run.{Run}
use Rattle.wait_causes.specs.Waits.{AreWaits}
use Rattle.planner_run.specs.Drawn.{IsGraphOf, IsLayoutAt}
use Rattle.planner_run.specs.Reporting.{AreRemarksOn, IsAbout, IsLayoutFor, IsOpenReportOf, IsReportOf, IsVerdictOn, SaysWhyNot, stuck_table}

module _ (shown : Report) (text : List ℕ) (page : IsPage shown text) (input : List ℕ) (D : Doc) (names : List (Vec (String Global) Global)) (title : List ℕ) where
  -- the page of a run
  pub page_of_run : (run : Run) → shown.title.now ≡ title → IsVerdictOn D names shown.verdict.now → IsLayoutAt D names 0 D.start shown.tracks.now
      → option_map (λ r. r.now) shown.run ≡ Some run → AreWaits D names run shown.waits.now → IsGraphOf D run shown.waits.now false shown.graph.now
      → IsAbout D names 0 shown → AreRemarksOn input (option_map (λ s. s.now) shown.remarks) → IsReportOf input D names title run text
  page_of_run run is_title verdict layout is_run waits graph about remarks = record {
    shown = shown;
    is_title = is_title;
    is_verdict = verdict;
    is_layout = layout;
    is_run = is_run;
    are_waits = waits;
    is_graph = graph;
    is_about = about;
    are_remarks = remarks;
    is_page = page;
  }

  -- the page of a document without certificates
  pub open_page : (why : Uncertified) → shown.title.now ≡ title → SaysWhyNot D names why shown.verdict.now → IsLayoutFor D names why shown.tracks.now
      → shown.run ≡ None → IsAbout D names (stuck_table why) shown → AreRemarksOn input (option_map (λ s. s.now) shown.remarks)
      → IsOpenReportOf input D names title why text
  open_page why is_title verdict layout no_run about remarks = record {
    shown = shown;
    is_title = is_title;
    is_verdict = verdict;
    is_layout = layout;
    has_no_run = no_run;
    is_about = about;
    are_remarks = remarks;
    is_page = page;
  }
