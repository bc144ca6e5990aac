-- How late the last move can be.
use Rattle.std.proofs.Common.{◌≡◌, ◌≢◌, ◌⊎◌, ℕ, zero, suc, ◌+◌, ◌-◌, ◌*◌, ◌<◌, ◌≤◌, List, [], ◌∷◌, length, replicate, Some, refl, arith, ap, ◌∙◌, inl, inr, subst, sym}
use Rattle.std.specs.Prelude.{max, slice_index, slice_set}
use Rattle.std.proofs.lemmas.Bool.{cases_eq}
use Rattle.std.proofs.lemmas.List.{get_or-set_same, get_or-set_other, length-replicate}
use Rattle.std.proofs.Math.ListN.{length-set}
use Rattle.rail_model.specs.declared.types.Ask.{Ask}
use Rattle.rail_model.specs.declared.types.Ask.TheVariants.{Yes, Arrived as AtEnd, Occupied, Full, Waits}
use Rattle.rail_model.specs.declared.types.Line.{Line}
use Rattle.rail_model.specs.declared.types.Line.TheVariants.{Move as MoveLine, Table as TableLine, KeptDiffers, KeptOver}
use Rattle.rail_model.specs.declared.types.Reply.{Reply}
use Rattle.rail_model.specs.declared.types.Reply.TheVariants.{Driver, NotWhole, Control}
use Rattle.rail_model.specs.declared.types.Tried.TheVariants.{Exchanged, Differs, Over, Early, NoMore}
use Rattle.rail_model.specs.Journal.{after_line, after_lines}
use Rattle.rail_model.specs.Lines.{move_line}
use Rattle.rail_model.specs.Move.{Move, advance}
use Rattle.rail_model.specs.Table.{trains, last, place}
use Rattle.rail_model.specs.Times.{time}
use Rattle.rail_model.specs.Yard.{Offer, Yard, offer, in_force, IsNextDue, moved, exchanged, kept_out}
use Rattle.rail_model.proofs.Asks.{told_once}
use Rattle.rail_model.proofs.Obstacles.{move_unfinished}
use Rattle.table_exchange.specs.Tables.{AreTables, Stands}
use Rattle.train_sim.specs.Report.{HaveTimes, IsSoon, Simulates, TakeAtMost}
use Rattle.train_sim.specs.Timed.{Clock, Stamped, IsNext, IsTimed, after_stamped, due_of, last_tick_or, lines_of, next_asker, starting, timed_lines}
use Rattle.train_sim.proofs.Righting.{stamped}
use Rattle.train_sim.proofs.Asking.{AsksNext, next_found}

-- All tables have n trains, and no step takes more than w ticks, nor none.
record Within (tables : List Offer) (times : List (List (List ℕ))) (n w : ℕ) : Type 0 where
  have : (t : ℕ) → t < length tables → trains (offer tables t).table ≡ n
  some : (t i k : ℕ) → t < length tables → i < trains (offer tables t).table → k < last (offer tables t).table i → 1 ≤ time times t i k
  most : TakeAtMost tables times w

-- The next move from the clock on comes at tick `by` at most.
record MovesBy (tables : List Offer) (n w : ℕ) (c : Clock) (by : ℕ) : Type 0 where
  there : c.yard.table < length tables
  one_each : length c.due ≡ n
  from_now : (i : ℕ) → i < n → c.now ≤ due_of c i
  near : by ≤ c.now + w
  most : (i : ℕ) → i < n → due_of c i ≤ max by (c.now + 1)
  movers : (i : ℕ) → i < n → Move (in_force tables c.yard) c.yard.positions i (advance c.yard.positions i) → due_of c i ≤ by
  fresh : ((i : ℕ) → i < n → due_of c i ≤ by) ⊎ (IsNextDue tables c.yard → ⊥)

-- the clock where train i is due later
abbrev later_due : Clock → Yard → ℕ → ℕ → Clock
later_due c y i d = record { yard = y; due = slice_set c.due i d; now = due_of c i }

due-own : (c : Clock) (y : Yard) (i d : ℕ) → i < length c.due → due_of (later_due c y i d) i ≡ d
due-own c y i d l = get_or-set_same c.due i d 0 l

due-other : (c : Clock) (y : Yard) (i d j : ℕ) → j ≢ i → due_of (later_due c y i d) j ≡ due_of c j
due-other c y i d j e = get_or-set_other c.due i j d 0 e

-- after a grant
MovesBy-moved : (tables : List Offer) (n w : ℕ) (c : Clock) (by i t : ℕ) → MovesBy tables n w c by → AsksNext c n i → t ≤ w → 1 ≤ t
    → MovesBy tables n w (later_due c (moved c.yard i) i (due_of c i + t)) (due_of c i + w)
MovesBy-moved tables n w c by i t bound asks short some =
    let k : i < length c.due = omega (arith, bound.one_each, asks.train) in
    let own : due_of (later_due c (moved c.yard i) i (due_of c i + t)) i ≡ due_of c i + t = due-own c (moved c.yard i) i (due_of c i + t) k in
    let all : (j : ℕ) → j < n → due_of (later_due c (moved c.yard i) i (due_of c i + t)) j ≤ due_of c i + w = λ j lj. elim (cases_eq j i) [
      | inl e ↦ subst (λ v. due_of (later_due c (moved c.yard i) i (due_of c i + t)) v ≤ due_of c i + w) (sym e) (omega arith)
      | inr e ↦ omega (arith, due-other c (moved c.yard i) i (due_of c i + t) j e, bound.most j lj, bound.near, bound.from_now i asks.train)
    ] in
    record {
      there = bound.there;
      one_each = length-set c.due i (due_of c i + t) ∙ bound.one_each;
      from_now = λ j lj. elim (cases_eq j i) [
        | inl e ↦ subst (λ v. due_of c i ≤ due_of (later_due c (moved c.yard i) i (due_of c i + t)) v) (sym e) (omega arith)
        | inr e ↦ omega (arith, due-other c (moved c.yard i) i (due_of c i + t) j e, asks.least j lj)
      ];
      near = omega arith;
      most = λ j lj. omega (arith, all j lj);
      movers = λ j lj m. all j lj;
      fresh = inl all;
    }

-- after another answer
MovesBy-waited : (tables : List Offer) (n w : ℕ) (c : Clock) (by i : ℕ) → MovesBy tables n w c by → AsksNext c n i → (Move (in_force tables c.yard) c.yard.positions i (advance c.yard.positions i) → ⊥)
    → (IsNextDue tables c.yard → ⊥) → MovesBy tables n w (later_due c c.yard i (due_of c i + 1)) by
MovesBy-waited tables n w c by i bound asks stays undue =
    let k : i < length c.due = omega (arith, bound.one_each, asks.train) in
    let own : due_of (later_due c c.yard i (due_of c i + 1)) i ≡ due_of c i + 1 = due-own c c.yard i (due_of c i + 1) k in
    record {
      there = bound.there;
      one_each = length-set c.due i (due_of c i + 1) ∙ bound.one_each;
      from_now = λ j lj. elim (cases_eq j i) [
        | inl e ↦ subst (λ v. due_of c i ≤ due_of (later_due c c.yard i (due_of c i + 1)) v) (sym e) (omega arith)
        | inr e ↦ omega (arith, due-other c c.yard i (due_of c i + 1) j e, asks.least j lj)
      ];
      near = omega (arith, bound.near, bound.from_now i asks.train);
      most = λ j lj. elim (cases_eq j i) [
        | inl e ↦ subst (λ v. due_of (later_due c c.yard i (due_of c i + 1)) v ≤ max by (due_of c i + 1)) (sym e) (omega arith)
        | inr e ↦ omega (arith, due-other c c.yard i (due_of c i + 1) j e, bound.most j lj, bound.from_now i asks.train)
      ];
      movers = λ j lj m. elim (cases_eq j i) [
        | inl e ↦ absurd (stays (subst (λ v. Move (in_force tables c.yard) c.yard.positions v (advance c.yard.positions v)) e m))
        | inr e ↦ omega (arith, due-other c c.yard i (due_of c i + 1) j e, bound.movers j lj m)
      ];
      fresh = inr undue;
    }

-- after an answer of the control, which comes only where all trains are due by then
MovesBy-tried : (tables : List Offer) (n w : ℕ) (c : Clock) (by : ℕ) (y : Yard) → MovesBy tables n w c by → IsNextDue tables c.yard → y.table < length tables
    → MovesBy tables n w (record c { yard = y }) by
MovesBy-tried tables n w c by y bound due there =
    let all : (i : ℕ) → i < n → due_of c i ≤ by = elim (bound.fresh) [ inl f ↦ f | inr f ↦ absurd (f due) ] in
    record { there = there; one_each = bound.one_each; from_now = bound.from_now; near = bound.near; most = bound.most; movers = λ i l m. all i l; fresh = inl all }

-- lines take back no move
moves_grow : (y : Yard) (lines : List Line) → y.moves ≤ (after_lines y lines).moves
moves_grow y [] = omega arith
moves_grow y (MoveLine i from to ∷ later) = omega (arith, moves_grow (after_line y (MoveLine i from to)) later)
moves_grow y (TableLine t ∷ later) = moves_grow (after_line y (TableLine t)) later
moves_grow y (KeptDiffers t i k ∷ later) = moves_grow (after_line y (KeptDiffers t i k)) later
moves_grow y (KeptOver t s n ∷ later) = moves_grow (after_line y (KeptOver t s n)) later

-- where no move is made, the last tick stays
no_move-tick : (x : ℕ) (y : Yard) (ls : List (ℕ × Line)) → (after_lines y (lines_of ls)).moves ≡ y.moves → last_tick_or x ls ≡ x
no_move-tick x y [] none = refl
no_move-tick x y ((t, MoveLine i from to) ∷ ls) none = absurd (omega (arith, moves_grow (moved y i) (lines_of ls)))
no_move-tick x y ((t, TableLine k) ∷ ls) none = no_move-tick x (exchanged y) ls none
no_move-tick x y ((t, KeptDiffers k i p) ∷ ls) none = no_move-tick x (kept_out y) ls none
no_move-tick x y ((t, KeptOver k s m) ∷ ls) none = no_move-tick x (kept_out y) ls none

-- The last of these moves, of which the next comes at tick `by` at most, comes in time.
abbrev Soon : Yard → ℕ → ℕ → List (ℕ × Line) → Type 0
Soon y by w ls =
    (x : ℕ) → y.moves < (after_lines y (lines_of ls)).moves → last_tick_or x ls ≤ by + ((after_lines y (lines_of ls)).moves - suc y.moves) * w

one_more : (m w : ℕ) → 0 < m → w + (m - 1) * w ≡ m * w
one_more zero w h = absurd (omega arith)
one_more (suc m) w h = let e : suc m - 1 ≡ m = omega arith in rw e (grind arith)

-- a move in front
soon_move : (tables : List Offer) (y : Yard) (by w i t : ℕ) (ls : List (ℕ × Line)) → t ≤ by → Soon (moved y i) (t + w) w ls → Soon y by w ((t, move_line tables y i) ∷ ls)
soon_move tables y by w i t ls in_time soon x more =
    let end : ℕ = (after_lines (moved y i) (lines_of ls)).moves in
    elim (cases_eq end (moved y i).moves) [
      | inl none ↦
          let same : last_tick_or t ls ≡ t = no_move-tick t (moved y i) ls none in
          omega arith
      | inr some ↦
          let u : last_tick_or t ls ≤ t + w + (end - suc (moved y i).moves) * w = soon t (omega (arith, moves_grow (moved y i) (lines_of ls))) in
          let v : w + ((end - suc y.moves) - 1) * w ≡ (end - suc y.moves) * w = one_more (end - suc y.moves) w (omega (arith, moves_grow (moved y i) (lines_of ls))) in
          let e : end - suc (moved y i).moves ≡ (end - suc y.moves) - 1 = omega arith in
          let f : (end - suc (moved y i).moves) * w ≡ ((end - suc y.moves) - 1) * w = ap (λ (m : ℕ). m * w) e in
          omega arith
    ]

-- what is known of all that follows a clock
abbrev Later : List Offer → List (List (List ℕ)) → ℕ → ℕ → List Stamped → Type 0
Later tables times n w later = (c : Clock) (by : ℕ) → MovesBy tables n w c by → IsTimed tables times c later → Soon c.yard by w (timed_lines tables c.yard later)

-- an answer that is no grant in front
soon_waited : (tables : List Offer) (times : List (List (List ℕ))) (n w : ℕ) (c : Clock) (by t who : ℕ) (ask : Ask) (later : List Stamped) → Within tables times n w → MovesBy tables n w c by
    → ask ≢ Yes → IsNext tables c (stamped t who (Driver ask)) → IsTimed tables times (later_due c c.yard who (due_of c who + 1)) later → Later tables times n w later
    → Soon c.yard by w (timed_lines tables c.yard later)
soon_waited tables times n w c by t who ask later within bound other next timed rest =
    let T = in_force tables c.yard in
    let asks = next_found c n who (subst (λ v. next_asker c v ≡ Some who) (within.have c.yard.table bound.there) next.2) in
    rest (later_due c c.yard who (due_of c who + 1)) by
    (MovesBy-waited tables n w c by who bound asks (λ v. other (told_once T c.yard.positions who ask Yes v.before next.4.1 v)) next.0)
    timed

-- a grant in front
soon_granted : (tables : List Offer) (times : List (List (List ℕ))) (n w : ℕ) (c : Clock) (by t who : ℕ) (later : List Stamped) → Within tables times n w → MovesBy tables n w c by
    → IsNext tables c (stamped t who (Driver Yes)) → IsTimed tables times (after_stamped times c (record { who = who; reply = Driver Yes })) later → Later tables times n w later
    → Soon c.yard by w ((t, move_line tables c.yard who) ∷ timed_lines tables (moved c.yard who) later)
soon_granted tables times n w c by t who later within bound next timed rest =
    let T = in_force tables c.yard in
    let move : Move T c.yard.positions who (advance c.yard.positions who) = next.4.1 in
    let asks = next_found c n who (subst (λ v. next_asker c v ≡ Some who) (within.have c.yard.table bound.there) next.2) in
    let takes : ℕ = time times c.yard.table who (place c.yard.positions who) in
    let below : place c.yard.positions who < last T who = move_unfinished T c.yard.positions who move in
    let most : takes ≤ w = within.most c.yard.table who (place c.yard.positions who) bound.there move.train below in
    let some : 1 ≤ takes = within.some c.yard.table who (place c.yard.positions who) bound.there move.train below in
    let tick : t ≡ due_of c who = next.3 in
    soon_move tables c.yard by w who t (timed_lines tables (moved c.yard who) later) (omega (arith, bound.movers who asks.train move))
    (subst (λ v. Soon (moved c.yard who) (v + w) w (timed_lines tables (moved c.yard who) later)) (sym tick)
    (rest (after_stamped times c (record { who = who; reply = Driver Yes })) (due_of c who + w) (MovesBy-moved tables n w c by who takes bound asks most some) timed))

-- one entry in front
soon_entry : (tables : List Offer) (times : List (List (List ℕ))) (n w : ℕ) (c : Clock) (by t who : ℕ) (reply : Reply) (later : List Stamped) → Within tables times n w → MovesBy tables n w c by
    → IsNext tables c (stamped t who reply) → IsTimed tables times (after_stamped times c (record { who = who; reply = reply })) later → Later tables times n w later
    → Soon c.yard by w (timed_lines tables c.yard (stamped t who reply ∷ later))
soon_entry tables times n w c by t who (Driver Yes) later within bound next timed rest = soon_granted tables times n w c by t who later within bound next timed rest
soon_entry tables times n w c by t who (Driver AtEnd) later within bound next timed rest = soon_waited tables times n w c by t who AtEnd later within bound (λ e. cc) next timed rest
soon_entry tables times n w c by t who (Driver (Occupied o)) later within bound next timed rest = soon_waited tables times n w c by t who (Occupied o) later within bound (λ e. cc) next timed rest
soon_entry tables times n w c by t who (Driver (Full s k)) later within bound next timed rest = soon_waited tables times n w c by t who (Full s k) later within bound (λ e. cc) next timed rest
soon_entry tables times n w c by t who (Driver (Waits k)) later within bound next timed rest = soon_waited tables times n w c by t who (Waits k) later within bound (λ e. cc) next timed rest
soon_entry tables times n w c by t who (NotWhole s a) later within bound next timed rest = absurd next
soon_entry tables times n w c by t who (Control Exchanged) later within bound next timed rest =
    rest (record c { yard = exchanged c.yard }) by (MovesBy-tried tables n w c by (exchanged c.yard) bound next.0 next.2.1) timed
soon_entry tables times n w c by t who (Control (Differs i k)) later within bound next timed rest =
    rest (record c { yard = kept_out c.yard }) by (MovesBy-tried tables n w c by (kept_out c.yard) bound next.0 bound.there) timed
soon_entry tables times n w c by t who (Control (Over s k)) later within bound next timed rest =
    rest (record c { yard = kept_out c.yard }) by (MovesBy-tried tables n w c by (kept_out c.yard) bound next.0 bound.there) timed
soon_entry tables times n w c by t who (Control (Early k)) later within bound next timed rest = absurd (next.2.2.2 next.0)
soon_entry tables times n w c by t who (Control NoMore) later within bound next timed rest = absurd (let a = next.2.1 in let b = next.2.2 in omega arith)

timed_soon : (tables : List Offer) (times : List (List (List ℕ))) (n w : ℕ) (h : List Stamped) → Within tables times n w → Later tables times n w h
timed_soon tables times n w [] within c by bound timed = λ x more. absurd (omega arith)
timed_soon tables times n w (s ∷ later) within c by bound timed =
    soon_entry tables times n w c by s.tick s.entry.who s.entry.reply later within bound timed.0 timed.1 (timed_soon tables times n w later within)

zeros-at : (n i : ℕ) → slice_index (replicate n 0) i ≡ 0
zeros-at zero i = refl
zeros-at (suc n) zero = refl
zeros-at (suc n) (suc i) = zeros-at n i

MovesBy-starting : (tables : List Offer) (y : Yard) (n w : ℕ) → y.table < length tables → MovesBy tables n w (starting y n) 0
MovesBy-starting tables y n w there = record {
  there = there;
  one_each = length-replicate n 0;
  from_now = λ i l. omega arith;
  near = omega arith;
  most = λ i l. omega (arith, zeros-at n i);
  movers = λ i l m. omega (arith, zeros-at n i);
  fresh = inl (λ i l. omega (arith, zeros-at n i));
}

last_soon : (tables : List Offer) (times : List (List (List ℕ))) (y : Yard) (n w : ℕ) (h : List Stamped) → Within tables times n w → y.table < length tables → IsTimed tables times (starting y n) h
    → last_tick_or 0 (timed_lines tables y h) ≤ ((after_lines y (lines_of (timed_lines tables y h))).moves - y.moves - 1) * w
last_soon tables times y n w h within there timed =
    let ls = timed_lines tables y h in
    let end : ℕ = (after_lines y (lines_of ls)).moves in
    elim (cases_eq end y.moves) [
      | inl none ↦ let same : last_tick_or 0 ls ≡ 0 = no_move-tick 0 y ls none in omega arith
      | inr some ↦
          let in_time : last_tick_or 0 ls ≤ 0 + (end - suc y.moves) * w =
          timed_soon tables times n w h within (starting y n) 0 (MovesBy-starting tables y n w there) timed 0 (omega (arith, moves_grow y (lines_of ls))) in
          let e : end - suc y.moves ≡ end - y.moves - 1 = omega arith in
          let f : (end - suc y.moves) * w ≡ (end - y.moves - 1) * w = ap (λ (m : ℕ). m * w) e in
          omega arith
    ]

-- the last move of a report comes in time
pub is_soon : (tables : List Offer) (times : List (List (List ℕ))) (y z : Yard) (earlier lines : List Line) (ticks : List ℕ) (last_tick : ℕ) → AreTables tables → HaveTimes tables times → Stands tables y
    → Simulates tables times y earlier lines ticks last_tick z → IsSoon tables times (z.moves - y.moves) last_tick
is_soon tables times y z earlier lines ticks last_tick are have stands s w most =
    let within : Within tables times (trains (in_force tables y)) w = record {
      have = λ t lt. are.same t lt ∙ sym (are.same y.table stands.in_range);
      some = λ t i k lt i_in k_in. (have.each t lt).not_below i k i_in k_in;
      most = most;
    } in
    let in_time = last_soon tables times y (trains (in_force tables y)) w s.entries within stands.in_range s.timed in
    subst (λ (t : ℕ). t ≤ (z.moves - y.moves - 1) * w) (sym s.last_is)
    (subst (λ (x : Yard). last_tick_or 0 (timed_lines tables y s.entries) ≤ (x.moves - y.moves - 1) * w) (sym s.end_is) in_time)
