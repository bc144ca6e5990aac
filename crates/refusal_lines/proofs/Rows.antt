-- Worked rows: a line for a refusal of each kind.
use Rattle.std.proofs.Common.{◌≡◌, ℕ, List, [], ◌∷◌, pos, negsuc, Some, None, refl, lit<}
use Rattle.std.specs.Prelude.{codes}
use Rattle.std.specs.Borrow.{Bor}
use Rattle.std.proofs.lemmas.Fmt.{decimal_digit}
use Rattle.track_layout.specs.declared.refused.LayoutRefused.TheVariants as layout
use Rattle.mission_table.specs.declared.refused.TrainRefused.TheVariants as trains
use Rattle.mission_table.specs.declared.refused.MissionRefused.TheVariants as missions
use Rattle.section_marks.specs.declared.refused.MarkRefused.TheVariants as marks
use Rattle.legal_state.specs.declared.judges.Illegal.TheVariants as start
use Rattle.cert_tree.specs.declared.reading.CertRefused.TheVariants as tree
use Rattle.rail_model.specs.declared.types.Bad.TheVariants as bad
use Rattle.rail_model.specs.declared.types.Ask.TheVariants as ask
use Rattle.move_journal.specs.declared.faults.BadText.TheVariants as text
use Rattle.move_journal.specs.declared.faults.BadLine.TheVariants as line
use Rattle.document_shapes.specs.declared.member.Member.TheVariants as member
use Rattle.document_shapes.specs.declared.refused.ShapeRefused.TheVariants as shape
use Rattle.document_json.specs.declared.refused.DocRefused.TheVariants as document
use Rattle.refusal_lines.specs.Fields.{fields_words, line as line_of}
use Rattle.refusal_lines.specs.Layouts.{layout_words, trains_words}
use Rattle.refusal_lines.specs.Missions.{missions_words}
use Rattle.refusal_lines.specs.Marks.{marks_words}
use Rattle.refusal_lines.specs.Starts.{start_words}
use Rattle.refusal_lines.specs.Certificates.{tree_words, bad_words}
use Rattle.refusal_lines.specs.Journals.{text_words, line_words}
use Rattle.refusal_lines.specs.Documents.{document_words}
use Rattle.refusal_lines.specs.Makers.{many_words, spent_words, stuck_words, rounds_words, connected_words}

abbrev label : List ℕ → Bor (List ℕ)
label text = record { ref_ptr = (0, 0); now = text }

labels : fields_words ((label (codes "first="), 0) ∷ (label (codes " second="), 1) ∷ []) ≡ codes "first=0 second=1"
labels = rw (decimal_digit 0 (lit< tt), decimal_digit 1 (lit< tt)) refl

double_name : line_of (layout_words (layout.DoubleName 0 1)) ≡ codes "ats: 2 DoubleName first=0 second=1\n"
double_name = rw (decimal_digit 0 (lit< tt), decimal_digit 1 (lit< tt)) refl

zone_empty : layout_words (layout.ZoneEmpty 1) ≡ codes "6 ZoneEmpty zone=1"
zone_empty = rw (decimal_digit 1 (lit< tt)) refl

train_name : trains_words (trains.Name 3) ≡ codes "17 Name train=3"
train_name = rw (decimal_digit 3 (lit< tt)) refl

not_linked : missions_words 0 (missions.NotLinked 0 2) ≡ codes "14 NotLinked table=0 train=0 place=2"
not_linked = rw (decimal_digit 0 (lit< tt), decimal_digit 2 (lit< tt)) refl

share : marks_words 0 (marks.Share 0 0 1 (pos 2)) ≡ codes "24 Share table=0 section=0 train=0 place=1 value=2"
share = rw (decimal_digit 0 (lit< tt), decimal_digit 1 (lit< tt), decimal_digit 2 (lit< tt)) refl

share_below_none : marks_words 0 (marks.Share 0 0 1 (negsuc 0)) ≡ codes "24 Share table=0 section=0 train=0 place=1 value=-1"
share_below_none = rw (decimal_digit 0 (lit< tt), decimal_digit 1 (lit< tt)) refl

start_over : start_words (start.Over 0 1 0) ≡ codes "112 StartIllegal 34 Over section=0 count=1 limit=0"
start_over = rw (decimal_digit 0 (lit< tt), decimal_digit 1 (lit< tt)) refl

short : tree_words 0 (tree.Short 1) ≡ codes "41 Short table=0 missing=1"
short = rw (decimal_digit 0 (lit< tt), decimal_digit 1 (lit< tt)) refl

move_point : bad_words 0 (bad.MovePoint 4 0 1) ≡ codes "56 MovePoint table=0 index=4 train=0 other=1"
move_point = rw (decimal_digit 0 (lit< tt), decimal_digit 1 (lit< tt), decimal_digit 4 (lit< tt)) refl

move_wait : bad_words 0 (bad.MoveWait 2 0 0) ≡ codes "59 MoveWait table=0 index=2 train=0 connection=0"
move_wait = rw (decimal_digit 0 (lit< tt), decimal_digit 2 (lit< tt)) refl

no_end : text_words text.NoEnd ≡ codes "73 NoEnd"
no_end = refl

full : line_words (line.Move 2 (ask.Full 0 1)) ≡ codes "75 Move line=2 Full section=0 count=1"
full = rw (decimal_digit 0 (lit< tt), decimal_digit 1 (lit< tt), decimal_digit 2 (lit< tt)) refl

no_start : document_words (document.Shape (shape.Shape None member.Start)) ≡ codes "102 Shape member=start"
no_start = refl

no_missions : document_words (document.Shape (shape.Shape (Some 1) member.Missions)) ≡ codes "102 Shape table=1 member=missions"
no_missions = rw (decimal_digit 1 (lit< tt)) refl

times_length : document_words (document.TimesLength 0 0 1) ≡ codes "113 TimesLength table=0 train=0 count=1"
times_length = rw (decimal_digit 0 (lit< tt), decimal_digit 1 (lit< tt)) refl

spent : spent_words 0 5 ≡ codes "205 Spent table=0 nodes=5"
spent = rw (decimal_digit 0 (lit< tt), decimal_digit 5 (lit< tt)) refl

-- the corridor's two trains meet in it
corridor_stuck : line_of (stuck_words 0 (1 ∷ 1 ∷ [])) ≡ codes "ats: 206 Stuck table=0 at=1,1\n"
corridor_stuck = rw (decimal_digit 0 (lit< tt), decimal_digit 1 (lit< tt)) refl

-- of one train nothing follows the position
one_train_stuck : stuck_words 1 (3 ∷ []) ≡ codes "206 Stuck table=1 at=3"
one_train_stuck = rw (decimal_digit 1 (lit< tt), decimal_digit 3 (lit< tt)) refl

rounds : rounds_words 0 2 (1 ∷ 1 ∷ []) ≡ codes "209 Rounds table=0 rounds=2 at=1,1"
rounds = rw (decimal_digit 0 (lit< tt), decimal_digit 1 (lit< tt), decimal_digit 2 (lit< tt)) refl

many : many_words 0 9 ≡ codes "121 Many table=0 count=9"
many = rw (decimal_digit 0 (lit< tt), decimal_digit 9 (lit< tt)) refl

connected : connected_words 0 ≡ codes "210 Connected table=0"
connected = rw (decimal_digit 0 (lit< tt)) refl
