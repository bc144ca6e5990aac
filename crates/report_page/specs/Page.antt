-- The page, as text.
use Rattle.std.specs.Prelude.{◌≡◌, ℕ, zero, suc, List, [], ◌++◌, codes, decimal, flat_map, length, slice_index_or, Option, Some, None, string_bytes, unwrap_or}
use Rattle.std.specs.Borrow.{Bor}
use Rattle.rail_model.specs.Names.{train_name}
use Rattle.run_timetable.specs.Csv.{number_text, place_text}
use Rattle.run_timetable.specs.Timetable.{rows_in, trains_of, wait_of}
use Rattle.run_timetable.specs.declared.rows.Row.{Row}
use Rattle.run_timetable.specs.declared.run.Run.{Run}
use Rattle.svg_text.specs.Text.{escape}
use Rattle.wait_causes.specs.Found.{cause_of}
use Rattle.wait_causes.specs.declared.wait.Wait.{Wait}
use Rattle.report_page.specs.Markup.{cell, markup}
use Rattle.report_page.specs.Sections.{sections_text}
use Rattle.report_page.specs.declared.markup.Part.{Part}
use Rattle.report_page.specs.declared.markup.Part.TheVariants.{Start, Style, Heading, Certified as TablesCertified, AfterCertificates, Stuck as StateStuck, Undecided as SearchOpen, AfterWords, Tracks, Graph, AfterPicture, Timetable, AfterRows, Remarks, Script, End}
use Rattle.report_page.specs.declared.writing.Report.{Report}
use Rattle.report_page.specs.declared.writing.Verdict.{Verdict}
use Rattle.report_page.specs.declared.writing.Verdict.TheVariants.{Certified, Stuck, Undecided}

-- what the train of a row waits for at its point, if it is known
abbrev pub cause_text : List Wait → Row → List ℕ
cause_text waits row = elim (row.leaves) [ None ↦ [] | Some tick ↦ unwrap_or (cause_of waits row.train tick) [] ]

-- a row: the train, its point, when it arrives there, when it leaves, how long it waits and what for
unfoldable pub row_text : Report → Row → List ℕ
row_text r row =
    codes "<tr>" ++ cell (escape (train_name r.trains.now row.train)) ++ cell (escape (place_text r.layout.now row.point)) ++ cell (number_text row.arrives)
    ++ cell (number_text row.leaves) ++ cell (number_text (wait_of row)) ++ cell (escape (cause_text r.waits.now row)) ++ codes "</tr>\n"

-- the rows of train i
abbrev pub train_text : Report → Run → ℕ → List ℕ
train_text r run i = flat_map (row_text r) (rows_in run i)

-- the rows of the first n trains
abbrev pub trains_text : Report → Run → ℕ → List ℕ
trains_text r run zero = []
trains_text r run (suc n) = trains_text r run n ++ train_text r run n

-- what stands before the verdict, with the title and the style of the page
abbrev pub head_text : List ℕ → List ℕ → List ℕ
head_text title style = markup Start ++ escape title ++ markup Style ++ style ++ markup Heading ++ escape title

-- words under the heading of a fixed part
abbrev pub words_text : Part → List ℕ → List ℕ
words_text part words = markup part ++ escape words ++ markup AfterWords

-- a picture under the heading of a fixed part
abbrev pub picture_text : Part → List ℕ → List ℕ
picture_text part picture = markup part ++ picture ++ markup AfterPicture

-- the certificate of table t, which has so many nodes
unfoldable pub certificate_text : ℕ → ℕ → List ℕ
certificate_text t nodes = codes "<li>table " ++ decimal t ++ codes ": " ++ decimal nodes ++ codes " nodes</li>\n"

-- those of the first tables
abbrev pub certificates_text : List ℕ → ℕ → List ℕ
certificates_text nodes zero = []
certificates_text nodes (suc t) = certificates_text nodes t ++ certificate_text t (slice_index_or nodes t 0)

-- that each table has a certificate, and how many nodes these have
abbrev pub certified_text : List ℕ → List ℕ
certified_text nodes = markup TablesCertified ++ certificates_text nodes (length nodes) ++ markup AfterCertificates

-- what is said of certificates
abbrev pub verdict_text : Verdict → List ℕ
verdict_text (Certified nodes) = certified_text nodes.items
verdict_text (Stuck words) = words_text StateStuck (string_bytes words)
verdict_text (Undecided words) = words_text SearchOpen (string_bytes words)

-- the timetable under its heading, and a row of names
abbrev pub timetable_text : Report → Run → List ℕ
timetable_text r run = markup Timetable ++ trains_text r run (trains_of run.starts.items) ++ markup AfterRows

-- a run, if there is one: its graph and its timetable
abbrev pub run_text : Report → List ℕ
run_text r = elim (r.run) [ None ↦ [] | Some run ↦ picture_text Graph r.graph.now ++ timetable_text r run.now ]

-- remarks, if there are some
abbrev pub remarks_text : Option (Bor (List ℕ)) → List ℕ
remarks_text None = []
remarks_text (Some lines) = words_text Remarks lines.now

-- the script and the end of the page
abbrev pub end_text : List ℕ → List ℕ
end_text script = markup Script ++ script ++ markup End

-- the whole page, with a style and a script
abbrev pub page_text : List ℕ → List ℕ → Report → List ℕ
page_text style script r =
    head_text r.title.now style ++ verdict_text r.verdict.now ++ picture_text Tracks r.tracks.now
    ++ run_text r ++ sections_text r ++ remarks_text r.remarks ++ end_text script

-- The text is the page of this report, with some style and some script.
pub record IsPage (r : Report) (text : List ℕ) : Type 0 where
  pub style : List ℕ
  pub script : List ℕ
  pub is_text : text ≡ page_text style script r
