-- Looks at the table in force, reads under a guard and payments keep the rule, by the core's own steps.
use Rattle.zone_yard.proofs.Prelude.{◌≡◌, ◌≢◌, ◌⊎◌, ℕ, ◌*◌, ◌<◌, ◌≤◌, List, [], length, set, get_or, true, false, Ok, Some, refl, sym, ap, ◌∙◌, subst, inl, inr, arith, get_or-set_other, get_or-set_same, ⊎_elim, slice_get, slice_get-get_or, Me, keeps, stepped, Allows, stands_history, Cell, Point, Position, number_of, put, Aboard, Actor, World, actor, gone, word, word_of, is_cell, may_read, Sound, step_of, step_sound, Setup, core, View, seat_of, KeepsRule}
use Rattle.std.proofs.lemmas.List.{set-get_or}
use mathlib.Core.Option.{none, some}
use lib.ListN.{get_elem?}
use Rattle.atomic_table.specs.Table.{step}
use Rattle.move_claim.specs.declared.cells.Cell.TheVariants.{Count, Table as TableCell}
use Rattle.move_claim.specs.Cells.{without_cell}
use Rattle.zone_machine.specs.declared.steps.Step.TheVariants.{Glance, Read, Pay}
use Rattle.zone_machine.specs.declared.steps.Seen.TheVariants as seen
use Rattle.zone_machine.specs.World.{Setup as CoreSetup, with_word, with_actor, yard_after}
use Rattle.zone_machine.specs.Sound.{IsNumber, IsSetup as IsCoreSetup}
use Rattle.zone_machine.proofs.Words.{word_apart, cell_word}
use Rattle.zone_yard.specs.Views.{glanced, read, read_table, paid}
use Rattle.zone_yard.specs.Tells.{Glances, ReadsCell, ReadsInForce, PaysCell}
use Rattle.zone_yard.proofs.Apart.{found_apart}
use Rattle.zone_yard.proofs.Keeps.{St, own_keeps, Stays}

glances_at : (S : CoreSetup) (p : ℕ) (w : World) (a : Actor) → actor w p ≡ a → a.stage ≡ Aboard → a.held ≡ []
    → step_of S p w Glance ≡ Ok (seen.Number (word S w TableCell), with_actor w p (record a { glance = Some (word S w TableCell) }))
glances_at S p w a is stage free = rw (is, stage, free) refl

reads_it : (S : CoreSetup) (p : ℕ) (c : Cell) (w : World) (a : Actor) → actor w p ≡ a → a.stage ≡ Aboard → a.closing ≡ false → is_cell S c ≡ true
    → may_read S a.held c ≡ true
    → step_of S p w (Read c) ≡ Ok (seen.Number (word S w c), with_actor w p (record a { known = put c (word S w c) a.known }))
reads_it S p c w a is stage still cell guard = rw (is, stage, still, cell, guard) refl

-- a word that is written with what it has
same_word : (w : World) (i p : ℕ) (a : Actor) → with_actor w p a ≡ with_word w i (get_or w.words i 0) p a
same_word w i p a = λ j. record { words = sym (set-get_or w.words i 0) j; history = w.history; actors = set w.actors p a }

-- the table's word is one of a table
pub table_low : (S : Setup) (s : St) (k : KeepsRule S s) → word (core S) k.world TableCell < length S.tables
table_low S s k =
    let stands = stands_history S.tables S.opening.yard k.world.history k.formed.tables k.formed.opening k.sound.legal in
    let a = stands.in_range in
    let b = k.sound.lags in omega arith

-- a load of a word by a pass, whose actor and notes change
load_keeps : (S : Setup) (s : St) (k : KeepsRule S s) (id i j : ℕ) (v v' : View) (c : List (ℕ × Unit {0})) → j ≡ 8 * i → get_elem? s.views id ≡ some v
    → v.aboard ≡ true → Stays v v' → v'.actor.stage ≡ Aboard → v'.noted ≤ word (core S) k.world TableCell → Sound (core S) (with_actor k.world v.number v'.actor)
    → KeepsRule S (stepped s j (get_or s.words j 0) id c v' keeps)
load_keeps S s k id i j v v' c is at aboard stays stage noted sound =
    let w : World = k.world in
    let n : ℕ = get_or s.words j 0 in
    let found : n ≡ get_or w.words i 0 = found_apart s.words w.words i j k.words is in
    let same : with_actor w v.number v'.actor ≡ with_word w i n v.number v'.actor = same_word w i v.number v'.actor ∙ ap (λ m. with_word w i m v.number v'.actor) (sym found) in
    subst (λ x. KeepsRule S (stepped s x n id c v' keeps)) (sym is)
    (own_keeps S s k id i n v v' c at aboard stays stage (subst (Sound (core S)) same sound)
    (subst (λ x. word (core S) w TableCell ≤ word (core S) x TableCell) same (omega arith))
    (subst (λ x. v'.noted ≤ word (core S) x TableCell) same noted))

pub glance_allows : (S : Setup) → (slots id i : ℕ) (me : Me (Unit {0}) View) → i ≡ 8 * word_of (core S) TableCell → me.0.aboard ≡ true → me.0.actor.held ≡ []
    → Allows (KeepsRule S) slots id me i (λ n. n) (λ found after. Glances (step slots i 0 0 none) (seat_of me) found (seat_of after))
glance_allows S slots id i me is aboard free s k _ at _ =
    let v : View = me.0 in
    let w : World = k.world in
    let n : ℕ = get_or s.words i 0 in
    let fit = k.fits id v at in
    let here = fit.aboard aboard in
    let found : n ≡ word (core S) w TableCell = found_apart s.words w.words (word_of (core S) TableCell) i k.words is in
    let sees : ℕ → Actor = λ t. record v.actor { glance = Some t } in
    let low = table_low S s k in
    let t = fit.noted in (
      glanced n v,
      keeps,
      tt,
      load_keeps S s k id (word_of (core S) TableCell) i v (glanced n v) me.1 is at aboard record { setup = refl; aboard = aboard; number = refl; seen = refl; mine = refl; joined = refl } here.stage (omega arith)
          (subst (λ m. Sound (core S) (with_actor w v.number (sees m))) (sym found)
          (step_sound (core S) w v.number Glance (seen.Number (word (core S) w TableCell)) (with_actor w v.number (sees (word (core S) w TableCell))) k.formed k.sound
          (glances_at (core S) v.number w v.actor here.actor here.stage free))),
      (omega arith, subst (λ (T : Setup). n < length T.tables) (sym here.setup) (omega arith), refl),
    )

-- the table in force is read under a zone
pub read_table_allows : (S : Setup) → (slots id i : ℕ) (me : Me (Unit {0}) View) → i ≡ 8 * word_of (core S) TableCell → me.0.aboard ≡ true → me.0.actor.closing ≡ false
    → may_read (core S) me.0.actor.held TableCell ≡ true → Allows (KeepsRule S) slots id me i (λ n. n) (λ found after. ReadsInForce (step slots i 0 0 none) (seat_of me) found (seat_of after))
read_table_allows S slots id i me is aboard still guard s k _ at _ =
    let v : View = me.0 in
    let w : World = k.world in
    let n : ℕ = get_or s.words i 0 in
    let fit = k.fits id v at in
    let here = fit.aboard aboard in
    let found : n ≡ word (core S) w TableCell = found_apart s.words w.words (word_of (core S) TableCell) i k.words is in
    let knows : ℕ → Actor = λ t. record v.actor { known = put TableCell t v.actor.known } in
    let low = table_low S s k in
    let t = fit.noted in (
      read_table n v,
      keeps,
      tt,
      load_keeps S s k id (word_of (core S) TableCell) i v (read_table n v) me.1 is at aboard record { setup = refl; aboard = aboard; number = refl; seen = refl; mine = refl; joined = refl } here.stage (omega arith)
          (subst (λ m. Sound (core S) (with_actor w v.number (knows m))) (sym found)
          (step_sound (core S) w v.number (Read TableCell) (seen.Number (word (core S) w TableCell)) (with_actor w v.number (knows (word (core S) w TableCell))) k.formed k.sound
          (reads_it (core S) v.number TableCell w v.actor here.actor here.stage still refl guard))),
      (omega arith, subst (λ (T : Setup). n < length T.tables) (sym here.setup) (omega arith), refl),
    )

-- a cell is read under its guard
pub read_allows : (S : Setup) → (slots id i : ℕ) (c : Cell) (me : Me (Unit {0}) View) → i ≡ 8 * word_of (core S) c → me.0.aboard ≡ true → me.0.actor.closing ≡ false
    → is_cell (core S) c ≡ true → may_read (core S) me.0.actor.held c ≡ true → Allows (KeepsRule S) slots id me i (λ n. n) (λ found after. ReadsCell c (seat_of me) found (seat_of after))
read_allows S slots id i c me is aboard still cell guard s k _ at _ =
    let v : View = me.0 in
    let w : World = k.world in
    let n : ℕ = get_or s.words i 0 in
    let fit = k.fits id v at in
    let here = fit.aboard aboard in
    let found : n ≡ word (core S) w c = found_apart s.words w.words (word_of (core S) c) i k.words is in
    let knows : ℕ → Actor = λ t. record v.actor { known = put c t v.actor.known } in (
      read c n v,
      keeps,
      tt,
      load_keeps S s k id (word_of (core S) c) i v (read c n v) me.1 is at aboard record { setup = refl; aboard = aboard; number = refl; seen = refl; mine = refl; joined = refl } here.stage fit.noted
          (subst (λ m. Sound (core S) (with_actor w v.number (knows m))) (sym found)
          (step_sound (core S) w v.number (Read c) (seen.Number (word (core S) w c)) (with_actor w v.number (knows (word (core S) w c))) k.formed k.sound
          (reads_it (core S) v.number c w v.actor here.actor here.stage still cell guard))),
      (let low = k.sound.small c cell in omega arith, refl),
    )

pays_it : (S : CoreSetup) (p n : ℕ) (c : Cell) (w : World) (a : Actor) → actor w p ≡ a → a.stage ≡ Aboard → number_of c a.owed ≡ Some n
    → step_of S p w (Pay c) ≡ Ok (seen.Done, with_word w (word_of S c) n p (record a { owed = without_cell c a.owed }))
pays_it S p n c w a is stage due = rw (is, stage, due) refl

-- a cell is the table's, or it isn't
table_or : (c : Cell) → (c ≡ TableCell) ⊎ (TableCell ≢ c)
table_or (Point q) = inr (λ e. absurd (cc e))
table_or (Count s) = inr (λ e. absurd (cc e))
table_or (Position i) = inr (λ e. absurd (cc e))
table_or TableCell = inl refl

-- a payment never sets the table's word back
table_rises : (S : CoreSetup) (w : World) (p n : ℕ) (c : Cell) (a a' : Actor) → IsCoreSetup S → Sound S w → actor w p ≡ a → p < 33 → number_of c a.owed ≡ Some n
    → word S w TableCell ≤ word S (with_word w (word_of S c) n p a') TableCell
table_rises S w p n c a a' ok sound is low due =
    let here : slice_get w.actors p ≡ Some a = slice_get-get_or w.actors p gone (let long = sound.actors in omega arith) ∙ ap Some is in
    let owes = sound.owing p a c n here due in
    ⊎_elim
    (λ (e : c ≡ TableCell).
    let is_n : (yard_after S w.history).table ≡ n = subst (λ x. IsNumber S w.history x n) e owes.3 (yard_after S w.history).table refl in
    let wide = sound.wide in
    let new : word S (with_word w (word_of S c) n p a') TableCell ≡ n =
    ap (λ x. get_or (set w.words (word_of S x) n) (word_of S TableCell) 0) e ∙ get_or-set_same w.words (word_of S TableCell) n 0 (omega arith) in
    let l = sound.lags in omega (arith, is_n, new))
    (λ (ne : TableCell ≢ c).
    let far = word_apart S TableCell c tt (cell_word S c ok owes.1) ne in
    let same = get_or-set_other w.words (word_of S c) (word_of S TableCell) n 0 far in omega (arith, same))
    (table_or c)

-- an owed cell is written
pub pay_allows : (S : Setup) → (slots id i n : ℕ) (c : Cell) (me : Me (Unit {0}) View) → i ≡ 8 * word_of (core S) c → me.0.aboard ≡ true
    → number_of c me.0.actor.owed ≡ Some n → Allows (KeepsRule S) slots id me i (λ _. n) (λ _ after. PaysCell c (seat_of me) (seat_of after))
pay_allows S slots id i n c me is aboard due s k _ at _ =
    let v : View = me.0 in
    let w : World = k.world in
    let fit = k.fits id v at in
    let here = fit.aboard aboard in
    let a' : Actor = record v.actor { owed = without_cell c v.actor.owed } in
    let rises = table_rises (core S) w v.number n c v.actor a' k.formed k.sound here.actor here.low due in
    let t = fit.noted in (
      paid c v,
      keeps,
      tt,
      subst (λ j. KeepsRule S (stepped s j n id me.1 (paid c v) keeps)) (sym is)
          (own_keeps S s k id (word_of (core S) c) n v (paid c v) me.1 at aboard record { setup = refl; aboard = aboard; number = refl; seen = refl; mine = refl; joined = refl } here.stage
          (step_sound (core S) w v.number (Pay c) seen.Done (with_word w (word_of (core S) c) n v.number a') k.formed k.sound (pays_it (core S) v.number n c w v.actor here.actor here.stage due))
          rises (omega arith)),
      refl,
    )
