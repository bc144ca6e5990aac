-- From one state of a simulation to the next, and what all of it reports.
use Rattle.std.proofs.Common.{◌≡◌, ℕ, ◌+◌, Bool, true, false, List, [], ◌∷◌, ◌++◌, length, replicate, Option, Some, None, refl, sym, ◌∙◌, ap, subst, arith}
use Rattle.std.specs.Prelude.{if◌then◌else◌}
use Rattle.std.proofs.lemmas.List.{append_assoc, append-nil, map-append, length-append, length-map, length-replicate}
use Rattle.rail_model.specs.declared.types.Line.{Line}
use Rattle.rail_model.specs.declared.types.Line.TheVariants.{Table as TableLine, KeptDiffers, KeptOver}
use Rattle.rail_model.specs.declared.types.Reply.TheVariants.{Control}
use Rattle.rail_model.specs.declared.types.Tried.{Tried}
use Rattle.rail_model.specs.declared.types.Tried.TheVariants.{Exchanged, Differs, Over, Early, NoMore}
use Rattle.rail_model.specs.Journal.{IsDone, after_line, after_lines, is_move}
use Rattle.rail_model.specs.Lines.{line_of}
use Rattle.rail_model.specs.Plain.{Plain}
use Rattle.rail_model.specs.Table.{trains}
use Rattle.rail_model.specs.Yard.{Offer, Yard, IsNextDue, Tries, after_entry, control, in_force}
use Rattle.table_exchange.specs.Steps.{after_tried}
use Rattle.plain_yard.specs.Lines.{is_answer, tried_lines}
use Rattle.plain_yard.proofs.Reaching.{after_append}
use Rattle.train_sim.specs.Report.{Simulates}
use Rattle.train_sim.specs.Steps.{Watched, Leads, begun, clock, noted}
use Rattle.train_sim.specs.Timed.{Stamped, IsTimed, timed_lines, lines_of, ticks_of, last_tick_or}

nothing_new : (tables : List Offer) (times : List (List (List ℕ))) (y : Yard) (w : Watched) (lines : List Line) → Leads tables times y w lines y w (lines ++ [])
nothing_new tables times y w lines = record {
  entries = [];
  added = [];
  timed = λ later t. t;
  told = λ later. refl;
  after = refl;
  adds = refl;
  ticks = sym (append-nil w.ticks);
  last = refl;
}

pub leads_same : (tables : List Offer) (times : List (List (List ℕ))) (y : Yard) (w : Watched) (lines : List Line) → Leads tables times y w lines y w lines
leads_same tables times y w lines = subst (Leads tables times y w lines y w) (append-nil lines) (nothing_new tables times y w lines)

last_append : (t : ℕ) (ks ls : List (ℕ × Line)) → last_tick_or t (ks ++ ls) ≡ last_tick_or (last_tick_or t ks) ls
last_append t [] ls = refl
last_append t (k ∷ ks) ls =
    elim (is_move k.1) as (λ b.
    (elim b as (λ v. ℕ) [ true ↦ last_tick_or k.0 (ks ++ ls) | false ↦ last_tick_or t (ks ++ ls) ])
    ≡ last_tick_or (elim b as (λ v. ℕ) [ true ↦ last_tick_or k.0 ks | false ↦ last_tick_or t ks ]) ls) [
      | true ↦ last_append k.0 ks ls
      | false ↦ last_append t ks ls
    ]

pub leads_trans : (tables : List Offer) (times : List (List (List ℕ))) (x y z : Yard) (u v w : Watched) (ks ls ms : List Line) → Leads tables times x u ks y v ls → Leads tables times y v ls z w ms
    → Leads tables times x u ks z w ms
leads_trans tables times x y z u v w ks ls ms p q = record {
  entries = p.entries ++ q.entries;
  added = p.added ++ q.added;
  timed = λ later t. subst (IsTimed tables times (clock x u)) (sym (append_assoc p.entries q.entries later)) (p.timed (q.entries ++ later) (q.timed later t));
  told = λ later.
      ap (timed_lines tables x) (append_assoc p.entries q.entries later) ∙ p.told (q.entries ++ later)
      ∙ ap (λ ts. p.added ++ ts) (q.told later) ∙ sym (append_assoc p.added q.added (timed_lines tables z later));
  after = q.after ∙ ap (λ o. after_lines o (lines_of q.added)) p.after ∙ sym (after_append x (lines_of p.added) (lines_of q.added))
      ∙ sym (ap (after_lines x) (map-append (λ (l : ℕ × Line). l.1) p.added q.added));
  adds = q.adds ∙ ap (λ o. o ++ lines_of q.added) p.adds ∙ append_assoc ks (lines_of p.added) (lines_of q.added)
      ∙ sym (ap (λ o. ks ++ o) (map-append (λ (l : ℕ × Line). l.1) p.added q.added));
  ticks = q.ticks ∙ ap (λ o. o ++ ticks_of q.added) p.ticks ∙ append_assoc u.ticks (ticks_of p.added) (ticks_of q.added)
      ∙ sym (ap (λ o. u.ticks ++ o) (map-append (λ (l : ℕ × Line). l.0) p.added q.added));
  last = q.last ∙ ap (λ t. last_tick_or t q.added) p.last ∙ sym (last_append u.last p.added q.added);
}

-- two more steps, over equal tables
pub leads_on : (tables ts us : List Offer) (times : List (List (List ℕ))) (x y z o : Yard) (u v w n : Watched) (ks ls ms ns : List Line) → ts ≡ tables → us ≡ ts → Leads tables times x u ks y v ls
    → Leads ts times y v ls z w ms → Leads us times z w ms o n ns → Leads tables times x u ks o n ns
leads_on tables ts us times x y z o u v w n ks ls ms ns same still p q r =
    leads_trans tables times x y o u v n ks ls ns p
    (leads_trans tables times y z o v w n ls ms ns (subst (λ (os : List Offer). Leads os times y v ls z w ms) same q) (subst (λ (os : List Offer). Leads os times z w ms o n ns) (still ∙ same) r))

-- a table that has its answer has its line, at the tick of the ask before
leads_answer : (tables : List Offer) (times : List (List (List ℕ))) (y : Yard) (w : Watched) (lines : List Line) (a : Tried) (l : Line) → IsNextDue tables y → Tries tables y a
    → after_tried y a ≡ after_entry y (record { who = control; reply = Control a }) → after_tried y a ≡ after_line y l
    → line_of tables y (record { who = control; reply = Control a }) ≡ Some l → is_move l ≡ false
    → Leads tables times y w lines (after_tried y a) (noted w) (lines ++ l ∷ [])
leads_answer tables times y w lines a l due tries entry line told still =
    let e : Stamped = record { tick = w.last; entry = record { who = control; reply = Control a } } in
    record {
      entries = e ∷ [];
      added = (w.last, l) ∷ [];
      timed = λ later t. ((due, refl, (refl, due.0, tries)), subst (λ z. IsTimed tables times (record { yard = z; due = w.due; now = w.last }) later) entry t);
      told = λ later.
          ap (λ (o : Option Line). elim o as (λ v. List (ℕ × Line)) [
            | Some k ↦ (w.last, k) ∷ timed_lines tables (after_entry y e.entry) later
            | None ↦ timed_lines tables (after_entry y e.entry) later
          ]) told
          ∙ ap (λ z. (w.last, l) ∷ timed_lines tables z later) (sym entry);
      after = line;
      adds = refl;
      ticks = refl;
      last = sym (ap (λ (b : Bool). elim b as (λ v. ℕ) [ true ↦ w.last | false ↦ w.last ]) still);
    }

-- the control's question leads on
pub leads_tried : (tables : List Offer) (times : List (List (List ℕ))) (y z : Yard) (w v : Watched) (lines longer : List Line) (a : Tried) → Tries tables y a → z ≡ after_tried y a
    → longer ≡ lines ++ tried_lines tables y a → v ≡ (if is_answer a then noted w else w) → Leads tables times y w lines z v longer
leads_tried tables times y z w v lines longer a tries after adds watch =
    subst (λ (o : Yard). Leads tables times y w lines o v longer) (sym after)
    (subst (λ (o : Watched). Leads tables times y w lines (after_tried y a) o longer) (sym watch)
    (subst (λ (o : List Line). Leads tables times y w lines (after_tried y a) (if is_answer a then noted w else w) o) (sym adds) (leads_asked tables times y w lines a tries)))
  where
    leads_asked : (tables : List Offer) (times : List (List (List ℕ))) (y : Yard) (w : Watched) (lines : List Line) (a : Tried) → Tries tables y a
        → Leads tables times y w lines (after_tried y a) (if is_answer a then noted w else w) (lines ++ tried_lines tables y a)
    leads_asked tables times y w lines Exchanged tries = leads_answer tables times y w lines Exchanged (TableLine (y.tried + 1)) tries.0 tries refl refl refl refl
    leads_asked tables times y w lines (Differs i k) tries = leads_answer tables times y w lines (Differs i k) (KeptDiffers (y.tried + 1) i k) tries.0 tries refl refl refl refl
    leads_asked tables times y w lines (Over s n) tries = leads_answer tables times y w lines (Over s n) (KeptOver (y.tried + 1) s n) tries.0 tries refl refl refl refl
    leads_asked tables times y w lines (Early m) tries = nothing_new tables times y w lines
    leads_asked tables times y w lines NoMore tries = nothing_new tables times y w lines

-- what leads from the beginning to a yard that is done is the timed journal
simulates : (tables : List Offer) (times : List (List (List ℕ))) (y z : Yard) (v : Watched) (lines longer : List Line) → IsDone tables z
    → Leads tables times y (begun (trains (in_force tables y)) (length lines)) lines z v longer → Simulates tables times y lines longer v.ticks v.last z
simulates tables times y z v lines longer done p =
    let all : timed_lines tables y (p.entries ++ []) ≡ p.added = p.told [] ∙ append-nil p.added in
    record {
      entries = p.entries ++ [];
      timed = p.timed [] done;
      lines_are = p.adds ∙ sym (ap (λ ts. lines ++ lines_of ts) all);
      ticks_are = p.ticks ∙ sym (ap (λ ts. replicate (length lines) 0 ++ ticks_of ts) all);
      last_is = p.last ∙ sym (ap (last_tick_or 0) all);
      end_is = p.after ∙ sym (ap (λ ts. after_lines y (lines_of ts)) all);
    }

pub reports : (tables : List Offer) (times : List (List (List ℕ))) (y z : Yard) (w v : Watched) (lines longer : List Line) (n k : ℕ) (ticks : List ℕ) (last : ℕ) (state : Plain) → w ≡ begun n k
    → n ≡ trains (in_force tables y) → k ≡ length lines → IsDone tables z → Leads tables times y w lines z v longer → ticks ≡ v.ticks → last ≡ v.last
    → state ≡ record { yard = z; lines = longer } → Simulates tables times y lines state.lines ticks last state.yard
reports tables times y z w v lines longer n k ticks last state w_is n_is k_is done p ticks_are last_is state_is =
    let first : w ≡ begun (trains (in_force tables y)) (length lines) = w_is ∙ ap (λ m. begun m k) n_is ∙ ap (begun (trains (in_force tables y))) k_is in
    let s = simulates tables times y z v lines longer done (subst (λ (o : Watched). Leads tables times y o lines z v longer) first p) in
    subst (λ (o : Plain). Simulates tables times y lines o.lines ticks last o.yard) (sym state_is)
    (subst (λ (t : List ℕ). Simulates tables times y lines longer t last z) (sym ticks_are)
    (subst (λ (t : ℕ). Simulates tables times y lines longer v.ticks t z) (sym last_is) s))

-- a report has one tick per line
pub one_tick_each : (tables : List Offer) (times : List (List (List ℕ))) (y z : Yard) (earlier lines : List Line) (ticks : List ℕ) (last_tick : ℕ) → Simulates tables times y earlier lines ticks last_tick z
    → length ticks ≡ length lines
one_tick_each tables times y z earlier lines ticks last_tick s =
    let ts = timed_lines tables y s.entries in
    let ticks_length : length ticks ≡ length {A = ℕ} (replicate (length earlier) 0) + length (ticks_of ts) = ap length s.ticks_are ∙ length-append (replicate (length earlier) 0) (ticks_of ts) in
    let lines_length : length lines ≡ length earlier + length (lines_of ts) = ap length s.lines_are ∙ length-append earlier (lines_of ts) in
    let zeros : length {A = ℕ} (replicate (length earlier) 0) ≡ length earlier = length-replicate (length earlier) 0 in
    let all_ticks : length (ticks_of ts) ≡ length ts = length-map ts (λ (l : ℕ × Line). l.0) in
    let all_lines : length (lines_of ts) ≡ length ts = length-map ts (λ (l : ℕ × Line). l.1) in
    omega arith
