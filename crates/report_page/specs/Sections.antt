-- The sections of a page, as text.
use Rattle.std.specs.Prelude.{ℕ, zero, suc, ℤ, pos, List, [], ◌∷◌, ◌++◌, codes, length, if◌then◌else◌, int_lt, Option, Some, None}
use Rattle.std.specs.Fmt.{signed_decimal}
use Rattle.rail_model.specs.Names.{train_name}
use Rattle.rail_model.specs.Table.{Table, last, limit, point, share, trains}
use Rattle.run_timetable.specs.Csv.{number_text}
use Rattle.run_timetable.specs.Timetable.{name_of}
use Rattle.state_sentences.specs.Sections.{section_words}
use Rattle.svg_text.specs.Text.{escape}
use Rattle.report_page.specs.Markup.{cell, markup}
use Rattle.report_page.specs.declared.markup.Part.TheVariants.{AfterRows, Sections}
use Rattle.report_page.specs.declared.writing.Report.{Report}

-- a share in brackets, if it is more than 1
abbrev pub more_text : ℤ → List ℕ
more_text x = if int_lt (pos 1) x then codes " (" ++ signed_decimal x ++ codes ")" else []

-- the point of a train at a place, if the train has a share of section s there
abbrev pub held_point : Table → ℕ → ℕ → ℕ → Option ℕ
held_point T s i k = if int_lt (pos 0) (share T i s k) then point T i k else None

-- that point, if there is one, and the share
unfoldable pub point_text : Report → ℕ → ℕ → ℕ → List ℕ
point_text r s i k =
    elim (held_point r.table.now s i k) [ None ↦ [] | Some q ↦ codes " " ++ escape (name_of r.layout.now q) ++ more_text (share r.table.now i s k) ]

-- these points at the first n places of train i
abbrev pub points_text : Report → ℕ → ℕ → ℕ → List ℕ
points_text r s i zero = []
points_text r s i (suc n) = points_text r s i n ++ point_text r s i n

-- a train by its name with points, if there are some
abbrev pub named_points : List ℕ → List ℕ → List ℕ
named_points name [] = []
named_points name (letter ∷ later) = codes "<div><b>" ++ escape name ++ codes "</b>" ++ (letter ∷ later) ++ codes "</div>"

-- where train i has a share of section s
unfoldable pub member_text : Report → ℕ → ℕ → List ℕ
member_text r s i = named_points (train_name r.trains.now i) (points_text r s i (suc (last r.table.now i)))

-- where the first n trains have
abbrev pub members_text : Report → ℕ → ℕ → List ℕ
members_text r s zero = []
members_text r s (suc n) = members_text r s n ++ member_text r s n

-- what the section is called, and its limit
unfoldable pub limit_text : Report → ℕ → List ℕ
limit_text r s = cell (escape (section_words r.sections.now s)) ++ cell (number_text (Some (limit r.table.now s)))

-- a row: that, and where trains have shares of the section
unfoldable pub section_text : Report → ℕ → List ℕ
section_text r s = codes "<tr>" ++ limit_text r s ++ codes "<td>" ++ members_text r s (trains r.table.now) ++ codes "</td></tr>\n"

-- the rows of the first n sections
abbrev pub rows_text : Report → ℕ → List ℕ
rows_text r zero = []
rows_text r (suc n) = rows_text r n ++ section_text r n

-- the sections under their heading, if there are some
abbrev pub sections_text : Report → List ℕ
sections_text r = elim (length r.table.now.sections) [ zero ↦ [] | suc n ↦ markup Sections ++ rows_text r (suc n) ++ markup AfterRows ]
