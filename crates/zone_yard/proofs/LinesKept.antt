-- The lines of a pass grow by those of its own entries.
use Rattle.zone_yard.proofs.Prelude.{◌≡◌, true≢false, get_or-set_same, ◌≢◌, ℕ, zero, suc, ◌+◌, ◌<◌, ◌≤◌, ◌==◌, List, [], ◌∷◌, ◌++◌, length, set, get_or-set_other, get_or, replicate, Bool, true, false, if◌then◌else◌, Some, None, refl, sym, ap, ◌∙◌, subst, arith, eq-eqb, ne_eqb, append-nil, length-append, unwrap_or, Occupied, BlockAsk, block_entries, Claim, number_of, number_in, claim_of, decided, known_table, tried, Driver, Control, Entry, Line, Table, place, trains, Offer, Yard, offer, control, IsHistory, stands_history, Row, Setup, core, state_after, IsLegalHistory, most_passes, StartsWith, entries_from, entries_of, done_of, View, new_entries, pass_view, Seat, Lines, AreLines, AreLeft, moves_from, CanAnswer}
use Rattle.std.proofs.Common.{lt_of_not-le, length-set, All}
use Rattle.std.proofs.lemmas.List.{get_or_past, append_cancel_left}
use Rattle.std.proofs.lemmas.List.Elements.{All-cons}
use mathlib.Core.Logic.{dite}
use native.Mathlib.Decide.{ℕ_discrete, dec_le}
use Rattle.rail_model.specs.declared.types.Ask.TheVariants.{Yes, Arrived, Full, Waits}
use Rattle.rail_model.specs.declared.types.BlockAsk.TheVariants as block
use Rattle.rail_model.proofs.Histories.{history_parts}
use Rattle.move_claim.specs.declared.cells.Cell.TheVariants.{Table as TableCell}
use Rattle.rail_model.specs.declared.types.Line.TheVariants.{Move as MoveLine}
use Rattle.rail_model.specs.declared.types.Tried.{Tried}
use Rattle.rail_model.specs.Lines.{line_of, move_line}
use Rattle.rail_model.specs.Table.{point}
use Rattle.rail_model.specs.Yard.{in_force, after, moved}
use Rattle.ticket_lines.specs.declared.tickets.TicketLine.{TicketLine}
use Rattle.ticket_lines.specs.Tickets.{at_ticket, marks_of, own_lines, lines_of}
use Rattle.ticket_lines.proofs.Histories.{own_here, own_lines_go_on, silent}
use Rattle.ticket_lines.proofs.Counted.{places_counted, tables_counted}
use Rattle.zone_machine.specs.Sound.{IsSetup as IsCoreSetup}
use Rattle.zone_yard.specs.Passes.{Receipt}
use Rattle.zone_yard.specs.Lines.{IsLeft, most_lines}
use Rattle.zone_yard.specs.Tells.{Appends}
use Rattle.zone_yard.proofs.Lists.{first_of, second_of, starts_on}
use Rattle.zone_yard.proofs.Counts.{all_few}
use Rattle.zone_yard.proofs.BlockEntries.{can_answer}
use Rattle.zone_yard.proofs.Entered.{entries-append}

-- entries none of which is the pass's
others : (p k : ℕ) (es : List Entry) → entries_from k p es ≡ [] → All (λ (e : Entry). p ≢ e.who) es
others p k [] none = λ j d lt. absurd (omega arith)
others p k (e ∷ es) none = by_test (λ _ h. others p (suc k) es h) (p == e.who) refl none
  where
    by_test : (ℕ → entries_from (suc k) p es ≡ [] → All (λ (x : Entry). p ≢ x.who) es) → (b : Bool) → (p == e.who) ≡ b
        → (if b then record { ticket = k; entry = e } ∷ entries_from (suc k) p es else entries_from (suc k) p es) ≡ [] → All (λ (x : Entry). p ≢ x.who) (e ∷ es)
    by_test later true is h = absurd (cc h)
    by_test later false is h = All-cons (λ (x : Entry). p ≢ x.who) e es (λ same. true≢false (sym (eq-eqb p e.who same) ∙ is)) (later 0 h)

-- what others add gives a pass no line
same_lines : (S : Setup) (p : ℕ) (seen rest : List Entry) → entries_of p (seen ++ rest) ≡ entries_of p seen → lines_of S.tables S.opening.yard p (seen ++ rest) ≡ lines_of S.tables S.opening.yard p seen
same_lines S p seen rest same =
    let none = append_cancel_left (entries_of p seen) (entries_from (0 + length seen) p rest) [] (sym (entries-append 0 p seen rest) ∙ (same ∙ sym (append-nil (entries_of p seen)))) in
    own_lines_go_on S.tables S.opening.yard p seen rest
    ∙ (ap (λ l. lines_of S.tables S.opening.yard p seen ++ l) (silent S.tables (after S.opening.yard seen) p (length seen) rest (others p (0 + length seen) rest none))
    ∙ append-nil (lines_of S.tables S.opening.yard p seen))

module _ (steps found : ℕ) (m after_it : Seat) (a : Appends steps m found after_it) (own : entries_of m.view.number m.view.seen ≡ m.view.mine) where
  abbrev S : Setup
  S = m.view.setup

  abbrev p : ℕ
  p = m.view.number

  -- what others added before the entry gives the pass no line
  before_lines : lines_of S.tables S.opening.yard p a.before ≡ lines_of S.tables S.opening.yard p m.view.seen
  before_lines = ap (lines_of S.tables S.opening.yard p) a.begins.1 ∙ same_lines S p m.view.seen a.begins.0 (ap (entries_of p) (sym a.begins.1) ∙ (a.so_far ∙ sym own))

  -- the pass's lines grow by those of its new entries
  pub lines_grow : lines_of S.tables S.opening.yard p after_it.view.seen
      ≡ lines_of S.tables S.opening.yard p m.view.seen ++ own_lines p found (marks_of S.tables (state_after S a.before) (new_entries steps m.view))
  lines_grow =
      ap (λ (x : Seat). lines_of S.tables S.opening.yard p x.view.seen) a.now
      ∙ (own_lines_go_on S.tables S.opening.yard p a.before (new_entries steps m.view)
      ∙ ((λ i. before_lines i ++ own_lines p (a.counted i) (marks_of S.tables (state_after S a.before) (new_entries steps m.view)))))

  -- with the lines that it gains a pass has its lines
  pub lines_kept : (old new : Lines) → AreLines m.view old → new.room ≡ old.room
      → new.items ≡ old.items ++ own_lines p found (marks_of S.tables (state_after S a.before) (new_entries steps m.view)) → AreLines after_it.view new
  lines_kept old new h room items =
      let named : after_it.view.number ≡ p = ap (λ (x : Seat). x.view.number) a.now in
      let made : after_it.view.setup ≡ S = ap (λ (x : Seat). x.view.setup) a.now in
      record {
        own = ap (λ q. entries_of q after_it.view.seen) named ∙ a.own;
        items = items
            ∙ (ap (λ l. l ++ own_lines p found (marks_of S.tables (state_after S a.before) (new_entries steps m.view))) h.items
            ∙ (sym lines_grow ∙ (λ i. lines_of (sym made i).tables (sym made i).opening.yard (sym named i) after_it.view.seen)));
        room = subst (λ (x : ℕ × ℕ). most_lines x.0 ≤ x.1) (λ i. (sym named i, sym room i)) h.room;
      }

-- the control has no more lines than tables were answered
pub few_of_control : (S : Setup) (H : List Entry) → IsCoreSetup (core S) → IsLegalHistory S H → length (lines_of S.tables S.opening.yard 32 H) ≤ 15
few_of_control S H formed legal =
    let stands = stands_history S.tables S.opening.yard H formed.tables formed.opening legal in
    let tried = stands.tried in
    let few = formed.tables.few in
    let count = tables_counted S.tables (all_few S formed) S.opening.yard 0 H legal in omega arith

-- a train has no more lines than places
pub few_of_train : (S : Setup) (p : ℕ) (H : List Entry) → IsCoreSetup (core S) → IsLegalHistory S H → p < 32 → length (lines_of S.tables S.opening.yard p H) ≤ 127
few_of_train S p H formed legal low =
    let y = after S.opening.yard H in
    let stands = stands_history S.tables S.opening.yard H formed.tables formed.opening legal in
    let count = places_counted S.tables (all_few S formed) S.opening.yard p 0 H low legal in
    let one_each = stands.legal.one_each in
    dite (dec_le (trains (in_force S.tables y)) p)
    (λ (far : trains (in_force S.tables y) ≤ p). let none : place y.positions p ≡ 0 = get_or_past y.positions p 0 (omega arith) in omega arith)
    (λ near.
    let lt : p < trains (in_force S.tables y) = lt_of_not-le near in
    let within = stands.legal.in_range p lt in
    let places = ((formed.formed y.table stands.in_range).missions p lt).few_places in omega arith)

-- the lines of a granted block
pub granted_lines : (tables : List Offer) (y : Yard) (p k n : ℕ) → IsHistory tables y (replicate n (record { who = p; reply = Driver Yes }))
    → own_lines p k (marks_of tables y (replicate n (record { who = p; reply = Driver Yes }))) ≡ moves_from k (in_force tables y) p (place y.positions p) n
granted_lines tables y p k zero legal = refl
granted_lines tables y p k (suc n) legal =
    let later = granted_lines tables (moved y p) p (suc k) n legal.1 in
    let mv = legal.0.1 in
    let one_each = mv.before.one_each in
    let train = mv.train in
    let next : place (moved y p).positions p ≡ place y.positions p + 1 = get_or-set_same y.positions p (get_or y.positions p 0 + 1) 0 (omega arith) in
    own_here p k (record { who = p; line = Some (move_line tables y p) }) (marks_of tables (moved y p) (replicate n (record { who = p; reply = Driver Yes }))) refl
    ∙ ap (λ l. record { ticket = k; line = move_line tables y p } ∷ l) (later ∙ ap (λ a. moves_from (suc k) (in_force tables y) p a n) next)

-- one move more is one line more
pub moves_more : (T : Table) (i a k n : ℕ) → moves_from k T i a (n + 1)
    ≡ moves_from k T i a n ++ record { ticket = k + n; line = MoveLine i (unwrap_or (point T i (a + n)) 0) (point T i (a + n + 1)) } ∷ []
moves_more T i a k zero = λ j. record {
  ticket = (let e : k ≡ k + 0 = omega arith in e) j;
  line = MoveLine i (unwrap_or (point T i ((let e : a ≡ a + 0 = omega arith in e) j)) 0) (point T i ((let e : a + 1 ≡ a + 0 + 1 = omega arith in e) j));
} ∷ []
moves_more T i a k (suc n) =
    let k_is : suc k + n ≡ k + suc n = omega arith in
    let a_is : a + 1 + n ≡ a + suc n = omega arith in
    let b_is : a + 1 + n + 1 ≡ a + suc n + 1 = omega arith in
    let one : suc n + 1 ≡ suc (n + 1) = omega arith in
    ap (moves_from k T i a) one ∙ ap (λ l. record { ticket = k; line = MoveLine i (unwrap_or (point T i a) 0) (point T i (a + 1)) } ∷ l)
    (moves_more T i (a + 1) (suc k) n
    ∙ (λ j. moves_from (suc k) T i (a + 1) n ++ record { ticket = k_is j; line = MoveLine i (unwrap_or (point T i (a_is j)) 0) (point T i (b_is j)) } ∷ []))

pub moves_count : (T : Table) (i a k n : ℕ) → length (moves_from k T i a n) ≡ n
moves_count T i a k zero = refl
moves_count T i a k (suc n) = ap suc (moves_count T i (a + 1) (suc k) n)

-- an answer that isn't a grant gives no line
quiet_lines : (tables : List Offer) (y : Yard) (p k n : ℕ) (x : BlockAsk) → CanAnswer n x → (x ≡ block.Yes → ⊥) → own_lines p k (marks_of tables y (block_entries p n x)) ≡ []
quiet_lines tables y p k n block.Yes can not_yes = absurd (not_yes refl)
quiet_lines tables y p k n (block.NotWhole step a) can not_yes = own_here p k (record { who = p; line = None }) [] refl
quiet_lines tables y p k n (block.First Yes) can not_yes = absurd (can refl)
quiet_lines tables y p k n (block.First Arrived) can not_yes = own_here p k (record { who = p; line = None }) [] refl
quiet_lines tables y p k n (block.First (Occupied by)) can not_yes = own_here p k (record { who = p; line = None }) [] refl
quiet_lines tables y p k n (block.First (Full s m)) can not_yes = own_here p k (record { who = p; line = None }) [] refl
quiet_lines tables y p k n (block.First (Waits b)) can not_yes = own_here p k (record { who = p; line = None }) [] refl

-- What a driver has that enters its answer: its table, its claim, and the answer to it.
pub record Tells (v : View) (t steps : ℕ) (c : Claim) (x : BlockAsk) : Type 0 where
  pub named : v.number ≡ c.train
  pub low : c.train < 32
  pub table : number_of TableCell v.actor.known ≡ Some t
  pub claim : c ≡ claim_of (offer v.setup.tables t).table c.train v.actor.position steps
  pub answer : x ≡ decided (offer v.setup.tables t).table c (number_in v.actor.known)

module _ (t steps found : ℕ) (c : Claim) (m w : Seat) (a : Appends steps m found w) (own : entries_of m.view.number m.view.seen ≡ m.view.mine) (x : BlockAsk) (tells : Tells m.view t steps c x) where
  abbrev R : Setup
  R = m.view.setup

  abbrev y : Yard
  y = state_after R a.before

  off : (m.view.number == control) ≡ false
  off = ne_eqb m.view.number control (λ e. (let n = tells.named in let l = tells.low in omega arith))

  -- the entries of a driver that knows the table in force
  entries : new_entries steps m.view ≡ block_entries c.train c.steps x
  entries =
      let under : ℕ → ℕ → List Entry = λ k q. block_entries q (claim_of (offer R.tables k).table q m.view.actor.position steps).steps
      (decided (offer R.tables k).table (claim_of (offer R.tables k).table q m.view.actor.position steps) (number_in m.view.actor.known)) in
      second_of (m.view.number == control) _ (under (known_table m.view.actor) m.view.number) off
      ∙ ((λ i. under (unwrap_or (tells.table i) 0) (tells.named i))
      ∙ (ap (λ (d : Claim). block_entries c.train d.steps (decided (offer R.tables t).table d (number_in m.view.actor.known))) (sym tells.claim)
      ∙ ap (block_entries c.train c.steps) (sym tells.answer)))

  -- the entry's table and place
  table_is : in_force R.tables y ≡ (offer R.tables t).table
  table_is = ap (λ k. (offer R.tables k).table) (a.under t tells.table)

  place_is : place y.positions c.train ≡ c.place
  place_is =
      sym (ap (place y.positions) tells.named)
      ∙ (sym (a.stood ∙ second_of (m.view.number == control) y.tried (place y.positions m.view.number) off) ∙ sym (ap (λ (d : Claim). d.place) tells.claim))

  legal_entries : IsHistory R.tables y (block_entries c.train c.steps x)
  legal_entries = subst (IsHistory R.tables y) entries
      ((history_parts R.tables R.opening.yard a.before (new_entries steps m.view)).0 (subst (λ (z : Seat). IsLegalHistory R z.view.seen) a.now a.legal)).1

  pub granted : x ≡ block.Yes → own_lines m.view.number found (marks_of R.tables y (new_entries steps m.view)) ≡ moves_from found (offer R.tables t).table c.train c.place c.steps
  granted is_yes =
      let all : IsHistory R.tables y (replicate c.steps (record { who = c.train; reply = Driver Yes })) = subst (λ z. IsHistory R.tables y (block_entries c.train c.steps z)) is_yes legal_entries in
      (λ i. own_lines (tells.named i) found (marks_of R.tables y ((entries ∙ ap (block_entries c.train c.steps) is_yes) i)))
      ∙ (granted_lines R.tables y c.train found c.steps all
      ∙ (λ i. moves_from found (table_is i) c.train (place_is i) c.steps))

  pub none_granted : (x ≡ block.Yes → ⊥) → own_lines m.view.number found (marks_of R.tables y (new_entries steps m.view)) ≡ []
  none_granted not_yes =
      (λ i. own_lines (tells.named i) found (marks_of R.tables y (entries i)))
      ∙ quiet_lines R.tables y c.train found c.steps x (subst (CanAnswer c.steps) (sym tells.answer) (can_answer (offer R.tables t).table c (number_in m.view.actor.known))) not_yes

  -- there is room for the lines of the moves
  pub moves_fit : (old : Lines) → IsCoreSetup (core R) → AreLines m.view old → x ≡ block.Yes → length old.items + c.steps ≤ old.room
  moves_fit old formed h is_yes =
      let legal : IsLegalHistory R w.view.seen = a.legal in
      let few = few_of_train R m.view.number w.view.seen formed legal (let n = tells.named in let l = tells.low in omega arith) in
      let grow : length (lines_of R.tables R.opening.yard m.view.number w.view.seen) ≡ length old.items + c.steps =
      ap length (lines_grow steps found m w a own ∙ (λ i. sym h.items i ++ granted is_yes i))
      ∙ (length-append old.items (moves_from found (offer R.tables t).table c.train c.place c.steps) ∙ ap (λ n. length old.items + n) (moves_count (offer R.tables t).table c.train c.place found c.steps)) in
      let room : 127 ≤ old.room = subst (λ n. n ≤ old.room) (second_of (m.view.number == control) 15 127 off) h.room in
      omega arith

-- What the control has that enters its answer to the next table.
pub record Tries (v : View) (next : ℕ) (x : Tried) : Type 0 where
  pub named : v.number ≡ control
  pub next_is : next ≡ v.actor.position + 1
  pub answer : x ≡ tried (core v.setup) v.actor

module _ (next found : ℕ) (m w : Seat) (a : Appends 1 m found w) (own : entries_of m.view.number m.view.seen ≡ m.view.mine) (x : Tried) (tries : Tries m.view next x) where
  abbrev pub entry : Entry
  entry = record { who = control; reply = Control x }

  on : (m.view.number == control) ≡ true
  on = eq-eqb m.view.number control tries.named

  one_told : new_entries 1 m.view ≡ entry ∷ []
  one_told = first_of (m.view.number == control) _ _ on ∙ (λ i. record { who = tries.named i; reply = Control (sym tries.answer i) } ∷ [])

  -- the table that is tried is the first without an answer
  pub next_tried : next ≡ (state_after m.view.setup a.before).tried + 1
  next_tried = tries.next_is ∙ ap (λ k. k + 1) (a.stood ∙ first_of (m.view.number == control) _ _ on)

  pub table_lines : own_lines m.view.number found (marks_of m.view.setup.tables (state_after m.view.setup a.before) (new_entries 1 m.view))
      ≡ at_ticket found (line_of m.view.setup.tables (state_after m.view.setup a.before) entry)
  table_lines =
      let y = state_after m.view.setup a.before in
      (λ i. own_lines (tries.named i) found (marks_of m.view.setup.tables y (one_told i)))
      ∙ (own_here control found (record { who = control; line = line_of m.view.setup.tables y entry }) [] refl
      ∙ append-nil (at_ticket found (line_of m.view.setup.tables y entry)))

  pub line_fits : (old : Lines) (l : Line) → AreLines m.view old → line_of m.view.setup.tables (state_after m.view.setup a.before) entry ≡ Some l → length old.items < old.room
  line_fits old l h is =
      let few = few_of_control m.view.setup w.view.seen a.formed a.legal in
      let grow : length (lines_of m.view.setup.tables m.view.setup.opening.yard m.view.number w.view.seen) ≡ length old.items + 1 =
      ap length (lines_grow 1 found m w a own ∙ (λ i. sym h.items i ++ (table_lines ∙ ap (at_ticket found) is) i))
      ∙ length-append old.items (record { ticket = found; line = l } ∷ []) in
      let same : length (lines_of m.view.setup.tables m.view.setup.opening.yard m.view.number w.view.seen) ≡ length (lines_of m.view.setup.tables m.view.setup.opening.yard 32 w.view.seen) =
      ap (λ q. length (lines_of m.view.setup.tables m.view.setup.opening.yard q w.view.seen)) tries.named in
      let room : 15 ≤ old.room = subst (λ n. n ≤ old.room) (first_of (m.view.number == control) 15 127 on) h.room in
      omega arith

-- a pass that boards has no line
pub lines_begin : (v : View) (p : ℕ) (l : Lines) → l.items ≡ [] → most_lines p ≤ l.room → entries_of p v.seen ≡ [] → AreLines (pass_view p v) l
lines_begin v p l none room unheard = record {
  own = unheard;
  items = none ∙ sym (silent v.setup.tables v.setup.opening.yard p 0 v.seen (others p 0 v.seen unheard));
  room = room;
}

-- the most lines of a train
pub most_of_train : (p : ℕ) → p < 32 → most_lines p ≡ 127
most_of_train p low = second_of (p == control) 15 127 (ne_eqb p control (λ e. omega arith))

-- what the root keeps rests on what it was made with, what it has seen, and who has left
pub left_stay : (v w : View) (rows : List Row) → w.setup ≡ v.setup → w.seen ≡ v.seen → w.done ≡ v.done → AreLeft v rows → AreLeft w rows
left_stay v w rows setup seen done h = record {
  wide = h.wide;
  each = λ p d lt.
      let o = h.each p d lt in
      record {
        seen = o.seen;
        begins = subst (λ l. StartsWith l o.seen) (sym seen) o.begins;
        own = o.own ∙ ap (done_of p) (sym done);
        items = o.items ∙ (λ i. lines_of (sym setup i).tables (sym setup i).opening.yard p o.seen);
      };
}

-- the lines of a pass that leaves come to the root's
pub left_more : (v w new : View) (rows : List Row) (p : ℕ) (row : Row) (l : Lines) → AreLeft v rows → AreLines w l → w.number ≡ p → p < most_passes → w.setup ≡ v.setup → new.setup ≡ v.setup
    → new.done ≡ (w.number, w.mine) ∷ v.done → StartsWith new.seen v.seen → StartsWith new.seen w.seen → row.items ≡ l.items → AreLeft new (set rows p row)
left_more v w new rows p row l left lines named low made made_new done theirs own is =
    let wide = left.wide in
    record {
      wide = length-set rows p row ∙ left.wide;
      each = λ q d lt. dite (ℕ_discrete q p)
          (λ (same : q ≡ p). subst (λ (x : ℕ × List TicketLine). IsLeft new x.0 x.1)
          (λ i. (sym same i, ((sym (get_or-set_same rows p row d (omega arith)) ∙ ap (λ j. get_or (set rows p row) j d) (sym same)) i).items))
          record {
            seen = w.seen;
            begins = own;
            own = subst (λ j. entries_of j w.seen ≡ done_of j new.done) named (lines.own ∙ sym (ap (done_of w.number) done ∙ first w.number w.mine v.done));
            items = is ∙ (lines.items ∙ (λ i. lines_of ((made ∙ sym made_new) i).tables ((made ∙ sym made_new) i).opening.yard (named i) w.seen));
          })
          (λ (ne : q ≢ p).
          let o = left.each q d lt in
          subst (λ (x : Row). IsLeft new q x.items) (sym (get_or-set_other rows p q row d ne))
          record {
            seen = o.seen;
            begins = starts_on new.seen v.seen o.seen theirs o.begins;
            own = o.own ∙ sym (ap (done_of q) done ∙ later q w.number w.mine v.done (λ e. ne (e ∙ named)));
            items = o.items ∙ (λ i. lines_of (sym made_new i).tables (sym made_new i).opening.yard q o.seen);
          });
    }
  where
    first : (n : ℕ) (mine : List Receipt) (rest : List (ℕ × List Receipt)) → done_of n ((n, mine) ∷ rest) ≡ mine
    first n mine rest = rw (eq-eqb n n refl) refl

    later : (q n : ℕ) (mine : List Receipt) (rest : List (ℕ × List Receipt)) → q ≢ n → done_of q ((n, mine) ∷ rest) ≡ done_of q rest
    later q n mine rest ne = rw (ne_eqb q n ne) refl

-- at the end the lines of a pass that left are those of its entries in the whole history
pub left_whole : (v : View) (p : ℕ) (lines : List TicketLine) → IsLeft v p lines → entries_of p v.seen ≡ done_of p v.done → lines ≡ lines_of v.setup.tables v.setup.opening.yard p v.seen
left_whole v p lines left own =
    left.items ∙ sym (ap (lines_of v.setup.tables v.setup.opening.yard p) left.begins.1 ∙ same_lines v.setup p left.seen left.begins.0 (ap (entries_of p) (sym left.begins.1) ∙ (own ∙ sym left.own)))
