-- What a run keeps: right lines from a legal start, a yard that stands, and counts that are true.
use Rattle.std.proofs.Common.{◌≡◌, ℕ, ◌+◌, ◌≤◌, List, [], ◌∷◌, ◌++◌, length, length-append, cond, refl, sym, ap, ◌∙◌, subst, arith, lit≤}
use Rattle.std.specs.Prelude.{count_by}
use Rattle.std.proofs.lemmas.List.Sums.{sum_by-cons}
use Rattle.rail_model.specs.declared.types.Ask.{Ask}
use Rattle.rail_model.specs.declared.types.Ask.TheVariants.{Yes, Arrived as AtEnd, Occupied, Full, Waits}
use Rattle.rail_model.specs.declared.types.Entry.{Entry}
use Rattle.rail_model.specs.declared.types.Line.{Line}
use Rattle.rail_model.specs.declared.types.Line.TheVariants.{Move as MoveLine, Table as TableLine, KeptDiffers, KeptOver}
use Rattle.rail_model.specs.declared.types.Tried.{Tried}
use Rattle.rail_model.specs.declared.types.Tried.TheVariants.{Exchanged, Differs, Over, Early, NoMore}
use Rattle.rail_model.specs.Journal.{IsRight, IsRound, IsDone, IsWhole, after_line, after_lines, is_move, with_counts}
use Rattle.rail_model.specs.Lines.{move_line, journal_of}
use Rattle.rail_model.specs.Move.{Answers}
use Rattle.rail_model.specs.Plain.{Plain}
use Rattle.rail_model.specs.State.{Legal}
use Rattle.rail_model.specs.Table.{IsTable}
use Rattle.rail_model.specs.Yard.{Offer, Yard, offer, in_force, opening, moved, Tries, IsHistory, after}
use Rattle.rail_model.proofs.Histories.{journal_leads, journal_right}
use Rattle.rail_model.proofs.LinesOfMoves.{move_line_right}
use Rattle.table_exchange.specs.Steps.{after_ask, after_tried}
use Rattle.table_exchange.specs.Tables.{AreTables, Stands}
use Rattle.table_exchange.proofs.Histories.{stands_lines}
use Rattle.table_exchange.proofs.Standings.{few_places}
use Rattle.plain_yard.specs.Keeps.{Keeps}
use Rattle.plain_yard.specs.Lines.{IsReady, asked_lines, most_lines, tried_lines}
use Rattle.plain_yard.specs.Rounds.{Finishes}
use Rattle.plain_yard.proofs.Reaching.{after_append}

stands_opening : (tables : List Offer) (start : List ℕ) → AreTables tables → Legal (offer tables 0).table start → Stands tables (opening start)
stands_opening tables start are legal = record { in_range = are.some; tried = are.some; answered = omega arith; legal = legal; moves = omega arith }

pub keeps_stands : (tables : List Offer) (y : Yard) (lines : List Line) → Keeps tables y lines → Stands tables y
keeps_stands tables y lines k =
    subst (Stands tables) (sym k.reached) (stands_lines tables (opening k.start) lines k.are (stands_opening tables k.start k.are k.legal) k.right)

-- each line is a move or a table that was tried
line_counts : (y : Yard) (lines : List Line) → (after_lines y lines).moves + (after_lines y lines).tried ≡ length lines + (y.moves + y.tried)
line_counts y [] = omega arith
line_counts y (MoveLine i from to ∷ later) = omega (arith, line_counts (after_line y (MoveLine i from to)) later)
line_counts y (TableLine t ∷ later) = omega (arith, line_counts (after_line y (TableLine t)) later)
line_counts y (KeptDiffers t i k ∷ later) = omega (arith, line_counts (after_line y (KeptDiffers t i k)) later)
line_counts y (KeptOver t s n ∷ later) = omega (arith, line_counts (after_line y (KeptOver t s n)) later)

-- how many moves there are with a line in front
moves-cons : (l : Line) (later : List Line) → count_by is_move (l ∷ later) ≡ cond (is_move l) 1 0 + count_by is_move later
moves-cons l later = sum_by-cons (λ x. cond (is_move x) 1 0) l later

-- each move is a line
move_counts : (y : Yard) (lines : List Line) → (after_lines y lines).moves ≡ count_by is_move lines + y.moves
move_counts y [] = omega arith
move_counts y (MoveLine i from to ∷ later) =
    let step : count_by is_move (MoveLine i from to ∷ later) ≡ 1 + count_by is_move later = moves-cons (MoveLine i from to) later in
    omega (arith, move_counts (after_line y (MoveLine i from to)) later)
move_counts y (TableLine t ∷ later) =
    let step : count_by is_move (TableLine t ∷ later) ≡ 0 + count_by is_move later = moves-cons (TableLine t) later in
    omega (arith, move_counts (after_line y (TableLine t)) later)
move_counts y (KeptDiffers t i k ∷ later) =
    let step : count_by is_move (KeptDiffers t i k ∷ later) ≡ 0 + count_by is_move later = moves-cons (KeptDiffers t i k) later in
    omega (arith, move_counts (after_line y (KeptDiffers t i k)) later)
move_counts y (KeptOver t s n ∷ later) =
    let step : count_by is_move (KeptOver t s n ∷ later) ≡ 0 + count_by is_move later = moves-cons (KeptOver t s n) later in
    omega (arith, move_counts (after_line y (KeptOver t s n)) later)

pub keeps_moves : (tables : List Offer) (y : Yard) (lines : List Line) → Keeps tables y lines → y.moves ≡ count_by is_move lines
keeps_moves tables y lines k =
    let there : y.moves ≡ (after_lines (opening k.start) lines).moves = ap (λ (z : Yard). z.moves) k.reached in
    omega (arith, move_counts (opening k.start) lines)

pub keeps_ready : (tables : List Offer) (y : Yard) (lines : List Line) (capacity : ℕ) → Keeps tables y lines → most_lines ≤ capacity → IsReady tables y lines capacity
keeps_ready tables y lines capacity k room = record {
  are = k.are;
  stands = keeps_stands tables y lines k;
  counted =
      let moves : y.moves ≡ (after_lines (opening k.start) lines).moves = ap (λ (z : Yard). z.moves) k.reached in
      let tried : y.tried ≡ (after_lines (opening k.start) lines).tried = ap (λ (z : Yard). z.tried) k.reached in
      omega (arith, line_counts (opening k.start) lines);
  room = room;
}

-- each table that has its answer is a line
pub counted_tried : (tables : List Offer) (y z : Yard) (tried : Tried) (lines longer : List Line) → length lines ≡ y.moves + y.tried
    → z ≡ after_tried y tried → longer ≡ lines ++ tried_lines tables y tried → length longer ≡ z.moves + z.tried
counted_tried tables y z tried lines longer counted after adds =
    ap (λ (ls : List Line). length ls) adds ∙ by_answer tried ∙ ap (λ (w : Yard). w.moves + w.tried) (sym after)
  where
    by_answer : (tried : Tried) → length (lines ++ tried_lines tables y tried) ≡ (after_tried y tried).moves + (after_tried y tried).tried
    by_answer Exchanged = omega (arith, counted, length-append lines (tried_lines tables y Exchanged))
    by_answer (Differs i k) = omega (arith, counted, length-append lines (tried_lines tables y (Differs i k)))
    by_answer (Over s n) = omega (arith, counted, length-append lines (tried_lines tables y (Over s n)))
    by_answer (Early m) = omega (arith, counted, length-append lines [])
    by_answer NoMore = omega (arith, counted, length-append lines [])

pub few_moves : (tables : List Offer) (y : Yard) → Stands tables y → IsTable (in_force tables y) → y.moves ≤ 4064
few_moves tables y s t = omega (arith, s.moves, few_places (in_force tables y) y.positions t s.legal)

pub keeps_begun : (tables : List Offer) (start : List ℕ) → AreTables tables → Legal (offer tables 0).table start → Keeps tables (opening start) []
keeps_begun tables start are legal = record { are = are; start = start; legal = legal; right = tt; reached = refl }

pub keeps_replayed : (tables : List Offer) (start : List ℕ) (all : List Line) (state : Plain) → AreTables tables → Legal (offer tables 0).table start → IsRight tables (opening start) all
    → state.yard ≡ after_lines (opening start) all → state.lines ≡ all → Keeps tables state.yard state.lines
keeps_replayed tables start all state are legal right yard lines = record {
  are = are;
  start = start;
  legal = legal;
  right = subst (IsRight tables (opening start)) (sym lines) right;
  reached = yard ∙ ap (after_lines (opening start)) (sym lines);
}

pub right_append : (tables : List Offer) (y : Yard) (ks ls : List Line) → IsRight tables y ks → IsRight tables (after_lines y ks) ls → IsRight tables y (ks ++ ls)
right_append tables y [] ls p q = q
right_append tables y (k ∷ ks) ls p q = (p.0, right_append tables (after_line y k) ks ls p.1 q)

-- a run has few lines
pub few_lines : (tables : List Offer) (y : Yard) (lines : List Line) → Keeps tables y lines → IsTable (in_force tables y) → length lines ≤ most_lines
few_lines tables y lines k formed =
    let ready = keeps_ready tables y lines most_lines k (lit≤ tt) in
    omega (arith, ready.counted, few_moves tables y ready.stands formed, ready.stands.tried, ready.are.few)

-- right lines go on with right lines
keeps_on : (tables : List Offer) (y z : Yard) (lines added longer : List Line) → Keeps tables y lines → IsRight tables y added → z ≡ after_lines y added → longer ≡ lines ++ added
    → Keeps tables z longer
keeps_on tables y z lines added longer k right after adds = record {
  are = k.are;
  start = k.start;
  legal = k.legal;
  right = subst (IsRight tables (opening k.start)) (sym adds)
      (right_append tables (opening k.start) lines added k.right (subst (λ w. IsRight tables w added) k.reached right));
  reached = after ∙ ap (λ w. after_lines w added) k.reached ∙ sym (after_append (opening k.start) lines added) ∙ ap (after_lines (opening k.start)) (sym adds);
}

pub lines_keep : (tables : List Offer) (y : Yard) (lines added : List Line) → Keeps tables y lines → IsRight tables y added → Keeps tables (after_lines y added) (lines ++ added)
lines_keep tables y lines added k right = keeps_on tables y (after_lines y added) lines added (lines ++ added) k right refl refl

pub history_keeps : (tables : List Offer) (y : Yard) (lines : List Line) (h : List Entry) → Keeps tables y lines → IsHistory tables y h
    → Keeps tables (after y h) (lines ++ journal_of tables y h)
history_keeps tables y lines h k legal =
    keeps_on tables y (after y h) lines (journal_of tables y h) (lines ++ journal_of tables y h) k (journal_right tables y h legal) (sym (journal_leads tables y h)) refl

pub keeps_asked : (tables : List Offer) (y z : Yard) (lines longer : List Line) (i : ℕ) (a : Ask) → Keeps tables y lines → Answers (in_force tables y) y.positions i a
    → z ≡ after_ask y i a → longer ≡ lines ++ asked_lines tables y i a → Keeps tables z longer
keeps_asked tables y z lines longer i Yes k answer after adds = keeps_on tables y z lines (move_line tables y i ∷ []) longer k (move_line_right tables y i answer, tt) after adds
keeps_asked tables y z lines longer i AtEnd k answer after adds = keeps_on tables y z lines [] longer k tt after adds
keeps_asked tables y z lines longer i (Occupied by) k answer after adds = keeps_on tables y z lines [] longer k tt after adds
keeps_asked tables y z lines longer i (Full s n) k answer after adds = keeps_on tables y z lines [] longer k tt after adds
keeps_asked tables y z lines longer i (Waits c) k answer after adds = keeps_on tables y z lines [] longer k tt after adds

pub keeps_tried : (tables : List Offer) (y z : Yard) (lines longer : List Line) (a : Tried) → Keeps tables y lines → Tries tables y a
    → z ≡ after_tried y a → longer ≡ lines ++ tried_lines tables y a → Keeps tables z longer
keeps_tried tables y z lines longer Exchanged k tries after adds = keeps_on tables y z lines (tried_lines tables y Exchanged) longer k ((refl, tries), tt) after adds
keeps_tried tables y z lines longer (Differs i p) k tries after adds = keeps_on tables y z lines (tried_lines tables y (Differs i p)) longer k ((refl, tries), tt) after adds
keeps_tried tables y z lines longer (Over s n) k tries after adds = keeps_on tables y z lines (tried_lines tables y (Over s n)) longer k ((refl, tries), tt) after adds
keeps_tried tables y z lines longer (Early m) k tries after adds = keeps_on tables y z lines [] longer k tt after adds
keeps_tried tables y z lines longer NoMore k tries after adds = keeps_on tables y z lines [] longer k tt after adds

-- a round robin is right
pub round_right : (tables : List Offer) (y : Yard) (b : ℕ) (lines : List Line) → IsRound tables y b lines → IsRight tables y lines
round_right tables y b [] r = tt
round_right tables y b (MoveLine i from to ∷ later) r = (r.0, round_right tables (moved y i) i later r.3)
round_right tables y b (TableLine t ∷ later) r = (r.0, round_right tables (after_line y (TableLine t)) b later r.1)
round_right tables y b (KeptDiffers t i k ∷ later) r = (r.0, round_right tables (after_line y (KeptDiffers t i k)) b later r.1)
round_right tables y b (KeptOver t s n ∷ later) r = (r.0, round_right tables (after_line y (KeptOver t s n)) b later r.1)

pub keeps_finish : (tables : List Offer) (y z : Yard) (b : ℕ) (lines longer : List Line) → Keeps tables y lines → Finishes tables y b lines z longer → Keeps tables z longer
keeps_finish tables y z b lines longer k f = keeps_on tables y z lines f.added longer k (round_right tables y b f.added f.round) f.after f.adds

-- the lines of a run that is done are a whole journal
pub whole : (tables : List Offer) (y : Yard) (lines : List Line) → (run : Keeps tables y lines) → IsDone tables y → IsWhole tables (opening run.start) (with_counts lines)
whole tables y lines run done = record {
  right = run.right;
  done = subst (IsDone tables) run.reached done;
  moves = refl;
  exchanges = refl;
}

-- and so are right lines with those of a finish
pub whole_finish : (tables : List Offer) (start : List ℕ) (y z : Yard) (last : ℕ) (lines longer : List Line) → IsRight tables (opening start) lines → y ≡ after_lines (opening start) lines
    → Finishes tables y last lines z longer → IsDone tables z → IsWhole tables (opening start) (with_counts longer)
whole_finish tables start y z last lines longer right reached f done = record {
  right = subst (IsRight tables (opening start)) (sym f.adds)
      (right_append tables (opening start) lines f.added right (subst (λ w. IsRight tables w f.added) reached (round_right tables y last f.added f.round)));
  done = subst (IsDone tables)
      (f.after ∙ ap (λ w. after_lines w f.added) reached ∙ sym (after_append (opening start) lines f.added) ∙ ap (after_lines (opening start)) (sym f.adds)) done;
  moves = refl;
  exchanges = refl;
}
