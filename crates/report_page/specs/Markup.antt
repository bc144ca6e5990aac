-- The fixed parts of a page, and the cells of its tables.
use Rattle.std.specs.Prelude.{ℕ, List, ◌++◌, codes}
use Rattle.report_page.specs.declared.markup.Part.{Part}
use Rattle.report_page.specs.declared.markup.Part.TheVariants.{Start, Style, Heading, Certified, AfterCertificates, Stuck, Undecided, AfterWords, Tracks, Graph, AfterPicture, Timetable, AfterRows, Sections, Remarks, Script, End}

-- the fixed parts of a page
unfoldable pub markup : Part → List ℕ
markup Start =
    codes "<!DOCTYPE html>\n<html lang=\"en\">\n<head>\n<meta charset=\"utf-8\">\n<meta name=\"viewport\" content=\"width=device-width\">\n<meta http-equiv=\"Content-Security-Policy\" content=\"default-src 'none'; style-src 'unsafe-inline'; script-src 'unsafe-inline'\">\n<title>"
markup Style = codes "</title>\n<style>\n"
markup Heading = codes "</style>\n</head>\n<body>\n<main>\n<h1>"
markup Certified =
    codes "</h1>\n<section id=\"verdict\" class=\"certified\">\n<h2>Certified</h2>\n<p>Trains may move in any order that the sections allow: all of them arrive. A certificate of this was found for each table.</p>\n<ul>\n"
markup AfterCertificates = codes "</ul>\n</section>\n"
markup Stuck = codes "</h1>\n<section id=\"verdict\" class=\"open\">\n<h2>Not certified: a state is stuck</h2>\n<pre>"
markup Undecided = codes "</h1>\n<section id=\"verdict\" class=\"open\">\n<h2>Not certified: the search gave up</h2>\n<pre>"
markup AfterWords = codes "</pre>\n</section>\n"
markup Tracks =
    codes "<section id=\"run\"></section>\n<section id=\"layout\">\n<h2>Layout</h2>\n<div class=\"picture\"><template shadowrootmode=\"open\">\n"
markup Graph = codes "<section id=\"graph\">\n<h2>Graph</h2>\n<div class=\"picture\"><template shadowrootmode=\"open\">\n"
markup AfterPicture = codes "</template></div>\n</section>\n"
markup Timetable =
    codes "<section id=\"timetable\">\n<h2>Timetable</h2>\n<table>\n<thead><tr><th>train</th><th>point</th><th>arrives</th><th>leaves</th><th>waits</th><th></th></tr></thead>\n<tbody>\n"
markup AfterRows = codes "</tbody>\n</table>\n</section>\n"
markup Sections =
    codes "<section id=\"sections\">\n<h2>Sections</h2>\n<p>What trains take of a section is never more than its limit: a train whose next step would pass it waits.</p>\n<table>\n<thead><tr><th>section</th><th>limit</th><th>trains, and the points at which they take 1, or more where it says so</th></tr></thead>\n<tbody>\n"
markup Remarks = codes "<section id=\"remarks\">\n<h2>Remarks</h2>\n<pre>"
markup Script = codes "</main>\n<script>\n"
markup End = codes "</script>\n</body>\n</html>\n"

-- a cell of a table
abbrev pub cell : List ℕ → List ℕ
cell content = codes "<td>" ++ content ++ codes "</td>"
