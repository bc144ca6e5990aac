-- A yard that nobody is out of comes to the state that its whole history leads to.
use Rattle.zone_yard.proofs.Prelude.{◌≡◌, ℕ, zero, suc, ◌+◌, ◌*◌, ◌-◌, ◌<◌, ◌≤◌, List, [], ◌∷◌, ◌++◌, length, get_or, Some, refl, sym, ap, ◌∙◌, subst, arith, lt-ltb, TableId, Entry, Line, journal_of, trains, place, Yard, stands_history, Row, Position, word_of, Setup, core, state_after, IsLegalHistory, most_passes, entries_of, done_of, View, KeepsRule, AreLeft}
use Rattle.std.proofs.lemmas.List.Elements.{All-cons}
use mathlib.Core.Option.{some, some-injective, some-ne-none}
use lib.ListN.{get_elem?}
use Rattle.rail_model.specs.Yard.{in_force}
use Rattle.table_exchange.specs.Tables.{Stands}
use Rattle.plain_yard.specs.Keeps.{Keeps}
use Rattle.plain_yard.proofs.Keeping.{history_keeps, keeps_ready, few_moves}
use Rattle.ticket_lines.specs.Tickets.{AreOf, lines_of}
use Rattle.ticket_lines.specs.Merging.{AreRows}
use Rattle.ticket_lines.proofs.Counted.{tables_counted}
use Rattle.move_claim.specs.declared.cells.Cell.TheVariants.{Table as TableCell}
use Rattle.zone_machine.specs.World.{number}
use Rattle.zone_machine.specs.Sound.{IsSetup}
use Rattle.zone_yard.specs.Views.{root_of}
use Rattle.zone_yard.specs.Boarding.{Closes}
use Rattle.zone_yard.proofs.Keeps.{St}
use Rattle.zone_yard.proofs.Closes.{seen_whole, words_are}
use Rattle.zone_yard.proofs.Counts.{AreLow, low_history, all_few}
use Rattle.zone_yard.proofs.Looks.{settled}
use Rattle.zone_yard.proofs.LinesKept.{left_whole}

read_at : (xs : List ℕ) (i a : ℕ) → get_elem? xs i ≡ some a → get_or xs i 0 ≡ a
read_at [] i a e = absurd (some-ne-none a (sym e))
read_at (x ∷ xs) zero a e = some-injective x a e
read_at (x ∷ xs) (suc i) a e = read_at xs i a e

low_of : (H : List Entry) → AreLow H → AreOf 33 H
low_of [] low = λ j d lt. absurd (omega arith)
low_of (e ∷ H) low = All-cons (λ (x : Entry). x.who < 33) e H low.0 (low_of H low.1)

-- the root's rows are those of its whole history
pub rows_are : (v : View) (rows : List Row) → IsSetup (core v.setup) → IsLegalHistory v.setup v.seen → AreLeft v rows → ((p : ℕ) → p < most_passes → entries_of p v.seen ≡ done_of p v.done)
    → AreRows rows (record { tables = v.setup.tables; opening = v.setup.opening.yard; history = v.seen })
rows_are v rows formed legal left passes =
    let wide = left.wide in
    record {
      each = λ p d lt. left_whole v p (get_or rows p d).items (left.each p d (omega arith)) (passes p (omega arith));
      low = subst (λ n. AreOf n v.seen) (sym left.wide) (low_of v.seen (low_history v.setup.tables v.setup.opening.yard v.seen (all_few v.setup formed) legal));
    }

module _ (v : View) (s : St) (k : KeepsRule v.setup s) (at : get_elem? s.views 0 ≡ some v) (nobody : v.out ≡ 0) where
  abbrev S : Setup
  S = v.setup

  abbrev pub ended : Yard
  ended = state_after S v.seen

  pub legal : IsLegalHistory S v.seen
  legal = subst (IsLegalHistory S) (sym (seen_whole S s k v at nobody)) k.sound.legal

  pub passes : (p : ℕ) → p < most_passes → entries_of p v.seen ≡ done_of p v.done
  passes p lt = ap (entries_of p) (seen_whole S s k v at nobody) ∙ settled S s k v at nobody p lt

  pub stands : Stands S.tables ended
  stands = stands_history S.tables S.opening.yard v.seen k.formed.tables k.formed.opening legal

  -- as many trains as there are positions
  pub size : length ended.positions ≡ length S.opening.yard.positions
  size =
      stands.legal.one_each
      ∙ (k.formed.tables.same ended.table stands.in_range
      ∙ (sym (k.formed.tables.same S.opening.yard.table k.formed.opening.in_range) ∙ sym k.formed.opening.legal.one_each))

  -- the tables that were tried, by the control's lines
  pub tried_is : ended.tried ≡ S.opening.yard.tried + length (lines_of S.tables S.opening.yard 32 v.seen)
  tried_is = tables_counted S.tables (all_few S k.formed) S.opening.yard 0 v.seen legal

  pub closes : (id : TableId) (positions : List ℕ) (table tried moves : ℕ) (lines : List Line) → Keeps S.tables S.opening.yard S.opening.lines
      → positions ≡ ended.positions → table ≡ ended.table → tried ≡ ended.tried → lines ≡ S.opening.lines ++ journal_of S.tables S.opening.yard v.seen → moves ≡ length lines - tried
      → Closes (root_of id v) (record { yard = record { positions = positions; table = table; tried = tried; moves = moves }; lines = lines })
  closes id positions table tried moves lines opened places_are table_is tried_is lines_are moves_are =
      let keeps : Keeps S.tables ended (S.opening.lines ++ journal_of S.tables S.opening.yard v.seen) = history_keeps S.tables S.opening.yard S.opening.lines v.seen opened legal in
      let counted : length (S.opening.lines ++ journal_of S.tables S.opening.yard v.seen) ≡ ended.moves + ended.tried =
      (keeps_ready S.tables ended (S.opening.lines ++ journal_of S.tables S.opening.yard v.seen) 4079 keeps (omega arith)).counted in
      let long = ap length lines_are in
      let moves_is : moves ≡ ended.moves = omega arith in
      let yard : record { positions = positions; table = table; tried = tried; moves = moves } ≡ ended =
      (λ i. record { positions = places_are i; table = table_is i; tried = tried_is i; moves = moves_is i }) in
      record {
        legal = legal;
        passes = passes;
        yard = yard;
        lines = lines_are;
        keeps = subst (λ (x : Yard × List Line). Keeps S.tables x.0 x.1) (λ i. (sym yard i, sym lines_are i)) keeps;
      }

  -- what a word of the positions is, and that it is small
  pub place_of : (i m first : ℕ) → first ≡ word_of (core S) (Position 0) → i < length ended.positions → get_elem? s.words (8 * (first + i)) ≡ some m → (m ≡ place ended.positions i) × (m ≤ 127)
  place_of i m first at_first lt e =
      let one_each = stands.legal.one_each in
      let near : i < trains (in_force S.tables ended) = omega arith in
      let is : number (core S) v.seen (Position i) ≡ Some (place ended.positions i) = rw (lt-ltb i (trains (in_force S.tables ended)) near) refl in
      let word : first + i ≡ word_of (core S) (Position i) = omega (arith, at_first) in
      let same : m ≡ place ended.positions i = sym (read_at s.words (8 * (first + i)) m e) ∙ (ap (λ j. get_or s.words (8 * j) 0) word ∙ words_are S s k v at nobody (Position i) (place ended.positions i) is) in
      let within = stands.legal.in_range i near in
      let few = ((k.formed.formed ended.table stands.in_range).missions i near).few_places in (same, omega arith)

  pub table_of : (m at_word : ℕ) → at_word ≡ word_of (core S) TableCell → get_elem? s.words (8 * at_word) ≡ some m → (m ≡ ended.table) × (m < 16)
  table_of m at_word is e =
      let same : m ≡ ended.table = sym (read_at s.words (8 * at_word) m e) ∙ (ap (λ j. get_or s.words (8 * j) 0) is ∙ words_are S s k v at nobody TableCell ended.table refl) in
      let few = k.formed.tables.few in
      let lt = stands.in_range in (same, omega arith)

  -- how many lines there are
  pub counts : (rows : List Row) (row : Row) (lines : List Line) → AreLeft v rows → row ≡ get_or rows 32 row → Keeps S.tables S.opening.yard S.opening.lines
      → lines ≡ S.opening.lines ++ journal_of S.tables S.opening.yard v.seen
      → (S.opening.yard.tried + length row.items ≡ ended.tried) × (length lines ≡ ended.moves + ended.tried) × (ended.tried < 16) × (ended.moves ≤ 4064)
  counts rows row lines left is opened lines_are =
      let keeps : Keeps S.tables ended (S.opening.lines ++ journal_of S.tables S.opening.yard v.seen) = history_keeps S.tables S.opening.yard S.opening.lines v.seen opened legal in
      let counted : length (S.opening.lines ++ journal_of S.tables S.opening.yard v.seen) ≡ ended.moves + ended.tried =
      (keeps_ready S.tables ended (S.opening.lines ++ journal_of S.tables S.opening.yard v.seen) 4079 keeps (omega arith)).counted in
      let own : row.items ≡ lines_of S.tables S.opening.yard 32 v.seen =
      ap (λ (r : Row). r.items) is ∙ left_whole v 32 (get_or rows 32 row).items (left.each 32 row (omega arith)) (passes 32 (omega arith)) in
      let same = ap length own in
      let by_lines = tried_is in
      let few = k.formed.tables.few in
      let tried = stands.tried in (
        omega arith,
        ap length lines_are ∙ counted,
        omega arith,
        few_moves S.tables ended stands (k.formed.formed ended.table stands.in_range),
      )
