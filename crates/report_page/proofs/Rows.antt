-- Worked rows: parts of a page.
use Rattle.std.proofs.Common.{◌≡◌, [], ◌∷◌, ◌++◌, Some, None, refl}
use Rattle.std.specs.Prelude.{String, codes, string_bytes}
use Rattle.std.specs.Fmt.{digits}
use Rattle.std.specs.declared.alloc.Global.{Global}
use Rattle.rail_model.specs.Layout.{Layout}
use Rattle.rail_model.specs.Names.{Names}
use Rattle.run_timetable.specs.declared.rows.Row.{Row}
use Rattle.svg_text.specs.Text.{escape}
use Rattle.report_page.specs.Page.{row_text}
use Rattle.report_page.specs.declared.writing.Report.{Report}

abbrev corridor : Layout
corridor = record { points = record { name = codes "A&B"; zone = 0 } ∷ record { name = codes "C"; zone = 0 } ∷ []; links = []; zones = 1 }

abbrev names : Names
names = record { points = codes "A&B" ∷ codes "C" ∷ []; trains = codes "T0" ∷ codes "T1" ∷ [] }

-- a page on two trains, which wait until tick 7: one for this, and of the other it isn't known what for
abbrev shown : Report → String Global → Report
shown r s = record r {
  layout = record r.layout { now = corridor };
  trains = record r.trains { now = names };
  waits = record r.waits { now = record { train = 0; leaves = 7; cause = None } ∷ record { train = 1; leaves = 7; cause = Some s } ∷ [] };
}

-- a train at its first point doesn't arrive there, and waits from tick 0 on; names are escaped
abbrev first : Row
first = record { train = 1; point = Some 0; arrives = None; leaves = Some 7 }

first_row : (r : Report) (s : String Global) → row_text (shown r s) first
    ≡ codes "<tr><td>T1</td><td>A&amp;B</td><td></td><td>7</td><td>7</td><td>" ++ (escape (string_bytes s) ++ codes "</td>") ++ codes "</tr>\n"
unfolding digits row_text
first_row r s = refl

-- a train that is out of the layout
abbrev out : Row
out = record { train = 0; point = None; arrives = Some 12; leaves = None }

out_row : (r : Report) (s : String Global) → row_text (shown r s) out
    ≡ codes "<tr><td>T0</td><td>-</td><td>12</td><td></td><td></td><td></td></tr>\n"
unfolding digits row_text
out_row r s = refl
