-- The asks in vain before a train moves, and what they and its move lead to.
use Rattle.std.proofs.Common.{◌≡◌, ◌≢◌, ◌⊎◌, ℕ, zero, suc, ◌+◌, ◌-◌, ◌<◌, ◌≤◌, List, [], ◌∷◌, ◌++◌, length, Some, refl, sym, ◌∙◌, ap, subst, arith, inl, inr}
use Rattle.std.specs.Prelude.{max, slice_index, slice_set, if◌then◌else◌}
use Rattle.std.proofs.lemmas.Bool.{cases_eq}
use Rattle.std.proofs.lemmas.Bool.Decides.{leb_tells}
use Rattle.std.proofs.lemmas.List.{append_assoc, ext_get_or, get_or-set_same, get_or-set_other}
use Rattle.std.proofs.Math.ListN.{length-set}
use Rattle.rail_model.specs.declared.types.Ask.{Ask}
use Rattle.rail_model.specs.declared.types.Ask.TheVariants.{Yes, Arrived as AtEnd, Occupied, Full, Waits as Held}
use Rattle.rail_model.specs.declared.types.Line.{Line}
use Rattle.rail_model.specs.declared.types.Reply.TheVariants.{Driver}
use Rattle.rail_model.specs.Lines.{move_line}
use Rattle.rail_model.specs.Move.{Move, Answers, advance}
use Rattle.rail_model.specs.State.{Arrived}
use Rattle.rail_model.specs.Sums.{sum_below}
use Rattle.rail_model.specs.Table.{Table, IsTable, trains, last, place}
use Rattle.rail_model.specs.Times.{time}
use Rattle.rail_model.specs.Yard.{Offer, Yard, in_force, IsNextDue, moved}
use Rattle.rail_model.proofs.Asks.{told}
use Rattle.rail_model.proofs.Obstacles.{move_unfinished}
use Rattle.rail_model.proofs.Sums.{sum_step}
use Rattle.train_sim.specs.Steps.{Watched, clock, MovesNext, PutsOff, Grants, Leads, not_before}
use Rattle.train_sim.specs.Timed.{Clock, Stamped, IsTimed, after_stamped, due_of, next_asker, timed_lines}
use Rattle.train_sim.proofs.Asking.{AsksNext, some_asker, asks_next}

abbrev in_vain : Clock → ℕ → Ask → Stamped
in_vain c i a = record { tick = due_of c i; entry = record { who = i; reply = Driver a } }

-- the clock when train i has asked in vain
abbrev waited : Clock → ℕ → Clock
waited c i = record { yard = c.yard; due = slice_set c.due i (due_of c i + 1); now = due_of c i }

after_in_vain : (times : List (List (List ℕ))) (c : Clock) (i : ℕ) (a : Ask) → a ≢ Yes → after_stamped times c (in_vain c i a).entry ≡ waited c i
after_in_vain times c i Yes ne = absurd (ne refl)
after_in_vain times c i AtEnd ne = refl
after_in_vain times c i (Occupied by) ne = refl
after_in_vain times c i (Full s n) ne = refl
after_in_vain times c i (Held k) ne = refl

no_line : (tables : List Offer) (c : Clock) (i : ℕ) (a : Ask) (later : List Stamped) → a ≢ Yes
    → timed_lines tables c.yard (in_vain c i a ∷ later) ≡ timed_lines tables c.yard later
no_line tables c i Yes later ne = absurd (ne refl)
no_line tables c i AtEnd later ne = refl
no_line tables c i (Occupied by) later ne = refl
no_line tables c i (Full s n) later ne = refl
no_line tables c i (Held k) later ne = refl

-- a train below i asks at train i's tick before it, another one after it
pub put_cases : (i t j : ℕ) → ((j < i) × (not_before i t j ≡ t + 1)) ⊎ ((i ≤ j) × (not_before i t j ≡ t))
put_cases i t j = elim (leb_tells (suc j) i) [
  | inl below ↦ inl (omega (arith, below.1), ap (λ b. if b then t + 1 else t) below.0)
  | inr behind ↦ inr (omega (arith, behind.1), ap (λ b. if b then t + 1 else t) behind.0)
]

-- Train i moves next, no table is due, and the trains will be due at these ticks when it asks.
record Before (tables : List Offer) (c : Clock) (i : ℕ) (later : List ℕ) : Type 0 where
  formed : IsTable (in_force tables c.yard)
  undue : IsNextDue tables c.yard → ⊥
  one_each : length c.due ≡ trains (in_force tables c.yard)
  next : MovesNext (in_force tables c.yard) c.yard.positions c.due i
  puts_off : PutsOff c.due i later

-- Asks in vain lead to these due ticks.
record Waits (tables : List Offer) (times : List (List (List ℕ))) (c : Clock) (due : List ℕ) : Type 0 where
  entries : List Stamped
  now : ℕ
  timed : (later : List Stamped) → IsTimed tables times (record { yard = c.yard; due = due; now = now }) later → IsTimed tables times c (entries ++ later)
  no_lines : (later : List Stamped) → timed_lines tables c.yard (entries ++ later) ≡ timed_lines tables c.yard later

none_wait : (tables : List Offer) (times : List (List (List ℕ))) (c : Clock) (due : List ℕ) → c.due ≡ due → Waits tables times c due
none_wait tables times c due same = record {
  entries = [];
  now = c.now;
  timed = λ later t. subst (λ (d : List ℕ). IsTimed tables times (record { yard = c.yard; due = d; now = c.now }) later) (sym same) t;
  no_lines = λ later. refl;
}

-- where the train that asks next isn't put off, none is
none_put_off : (c : Clock) (n i j : ℕ) (later : List ℕ) → length c.due ≡ n → i < n → PutsOff c.due i later → AsksNext c n j → slice_index later j ≡ due_of c j → c.due ≡ later
none_put_off c n i j later one_each i_in puts asks same =
    let j_put : slice_index later j ≡ max (due_of c j) (not_before i (due_of c i) j) = puts.1 j (omega (arith, asks.train)) in
    let least : due_of c j ≤ due_of c i = asks.least i i_in in
    let j_is : i ≡ j = elim (put_cases i (due_of c i) j) [
      | inl below ↦ absurd (omega (arith, below.1))
      | inr behind ↦ elim (cases_eq i j) [
        | inl is ↦ is
        | inr other ↦ absurd (let lt : i < j = omega (arith, behind.0) in omega (arith, asks.first i lt, behind.1))
      ]
    ] in
    ext_get_or 0 c.due later (sym puts.0) (λ k lt.
    let k_put : slice_index later k ≡ max (due_of c k) (not_before i (due_of c i) k) = puts.1 k lt in
    let k_least : due_of c j ≤ due_of c k = asks.least k (omega arith) in
    let i_tick : due_of c i ≡ due_of c j = ap (due_of c) j_is in
    elim (put_cases i (due_of c i) k) [
      | inl below ↦ let first : due_of c j < due_of c k = asks.first k (omega (arith, below.0)) in omega (arith, below.1)
      | inr behind ↦ omega (arith, behind.1)
    ])

-- what is still to wait
abbrev left : Clock → List ℕ → ℕ → ℕ
left c later n = sum_below (λ j. slice_index later j - due_of c j) n

-- Train j asks next, and will be put off.
module _ (tables : List Offer) (c : Clock) (i j : ℕ) (later : List ℕ) (b : Before tables c i later) (j_in : j < trains (in_force tables c.yard))
    (more : slice_index later j ≢ due_of c j) where
  -- a train that will be put off isn't the one that moves next, and may not move
  put_off_in_vain : (j ≢ i) × (Move (in_force tables c.yard) c.yard.positions j (advance c.yard.positions j) → ⊥)
      × (slice_index later j ≡ not_before i (due_of c i) j) × (due_of c j < not_before i (due_of c i) j)
  put_off_in_vain =
      let j_put : slice_index later j ≡ max (due_of c j) (not_before i (due_of c i) j) = b.puts_off.1 j (omega (arith, b.one_each)) in
      let ahead : due_of c j < not_before i (due_of c i) j = omega arith in
      let other : j ≢ i = λ same.
      let tick : due_of c j ≡ due_of c i = ap (due_of c) same in
      elim (put_cases i (due_of c i) j) [ inl below ↦ omega (arith, below.0) | inr behind ↦ omega (arith, behind.1) ] in (
        other,
        λ move. elim (b.next.first j move) [
          | inl less ↦ elim (put_cases i (due_of c i) j) [ inl below ↦ omega (arith, below.1) | inr behind ↦ omega (arith, behind.1) ]
          | inr equal ↦ elim (put_cases i (due_of c i) j) [ inl below ↦ omega (arith, below.0, equal.1) | inr behind ↦ omega (arith, behind.1, equal.0) ]
        ],
        omega arith,
        ahead,
      )

  still_before : Before tables (waited c j) i later
  still_before =
      let facts = put_off_in_vain in
      let j_len : j < length c.due = omega (arith, b.one_each) in
      let own : due_of (waited c j) j ≡ due_of c j + 1 = get_or-set_same c.due j (due_of c j + 1) 0 j_len in
      let rest : (k : ℕ) → k ≢ j → due_of (waited c j) k ≡ due_of c k = λ k ne. get_or-set_other c.due j k (due_of c j + 1) 0 ne in
      let i_rest : due_of (waited c j) i ≡ due_of c i = rest i (λ same. facts.0 (sym same)) in
      record {
        formed = b.formed;
        undue = b.undue;
        one_each = length-set c.due j (due_of c j + 1) ∙ b.one_each;
        next = record {
          move = b.next.move;
          first = λ k move.
              let k_rest : due_of (waited c j) k ≡ due_of c k = rest k (λ same. facts.1 (subst (λ x. Move (in_force tables c.yard) c.yard.positions x (advance c.yard.positions x)) same move)) in
              elim (b.next.first k move) [
                | inl less ↦ inl (omega arith)
                | inr equal ↦ inr (omega (arith, equal.0), equal.1)
              ];
        };
        puts_off = (
          b.puts_off.0 ∙ sym (length-set c.due j (due_of c j + 1)),
          λ k lt.
              let k_len : k < length c.due = omega (arith, length-set c.due j (due_of c j + 1)) in
              let k_put : slice_index later k ≡ max (due_of c k) (not_before i (due_of c i) k) = b.puts_off.1 k k_len in
              let tick : not_before i (due_of (waited c j) i) k ≡ not_before i (due_of c i) k = ap (λ t. not_before i t k) i_rest in
              elim (cases_eq k j) [
                | inl same ↦
                    let k_own : due_of (waited c j) k ≡ due_of c j + 1 = ap (due_of (waited c j)) same ∙ own in
                    let k_later : slice_index later k ≡ slice_index later j = ap (slice_index later) same in
                    let k_not : not_before i (due_of c i) k ≡ not_before i (due_of c i) j = ap (not_before i (due_of c i)) same in
                    omega (arith, facts.2, facts.3)
                | inr ne ↦ let k_rest : due_of (waited c j) k ≡ due_of c k = rest k ne in omega arith
              ],
        );
      }

  less_left : left c later (trains (in_force tables c.yard)) ≡ left (waited c j) later (trains (in_force tables c.yard)) + 1
  less_left =
      let facts = put_off_in_vain in
      let j_len : j < length c.due = omega (arith, b.one_each) in
      let own : due_of (waited c j) j ≡ due_of c j + 1 = get_or-set_same c.due j (due_of c j + 1) 0 j_len in
      sum_step (λ k. slice_index later k - due_of c k) (λ k. slice_index later k - due_of (waited c j) k) (trains (in_force tables c.yard)) j j_in
      (omega (arith, facts.2, facts.3))
      (λ k lt ne. ap (λ (t : ℕ). slice_index later k - t) (sym (get_or-set_other c.due j k (due_of c j + 1) 0 ne)))

-- where a train may move, not all have arrived
not_arrived : (T : Table) (p : List ℕ) (i : ℕ) → Move T p i (advance p i) → Arrived T p → ⊥
not_arrived T p i move arrived =
    let at_end : place p i ≡ last T i = arrived i move.train in
    omega (arith, move_unfinished T p i move)

-- one more ask in vain
one_waits : (tables : List Offer) (times : List (List (List ℕ))) (c : Clock) (i j : ℕ) (a : Ask) (later : List ℕ) → Before tables c i later → next_asker c (trains (in_force tables c.yard)) ≡ Some j
    → j < trains (in_force tables c.yard) → a ≢ Yes → Answers (in_force tables c.yard) c.yard.positions j a → Waits tables times (waited c j) later → Waits tables times c later
one_waits tables times c i j a later b asks j_in ne answer w =
    record {
      entries = in_vain c j a ∷ w.entries;
      now = w.now;
      timed = λ rest t. (
        (b.undue, not_arrived (in_force tables c.yard) c.yard.positions i b.next.move, asks, refl, (j_in, answer)),
        subst (λ (d : Clock). IsTimed tables times d (w.entries ++ rest)) (sym (after_in_vain times c j a ne)) (w.timed rest t),
      );
      no_lines = λ rest. no_line tables c j a (w.entries ++ rest) ne ∙ w.no_lines rest;
    }

-- some train asks in vain, or all are due as they will be
next_waits : (tables : List Offer) (times : List (List (List ℕ))) (steps : ℕ) (c : Clock) (i : ℕ) (later : List ℕ) → Before tables c i later
    → left c later (trains (in_force tables c.yard)) ≡ steps
    → ((j : ℕ) → left (waited c j) later (trains (in_force tables c.yard)) + 1 ≡ steps → Before tables (waited c j) i later → Waits tables times (waited c j) later)
    → Waits tables times c later
next_waits tables times steps c i later b is rest =
    let T = in_force tables c.yard in
    let asker = some_asker c (trains T) (omega (arith, b.next.move.train)) in
    elim (cases_eq (slice_index later asker.0) (due_of c asker.0)) [
      | inl same ↦ none_wait tables times c later (none_put_off c (trains T) i asker.0 later b.one_each b.next.move.train b.puts_off asker.2 same)
      | inr more ↦
          let facts = put_off_in_vain tables c i asker.0 later b asker.2.train more in
          let answer = told T c.yard.positions asker.0 b.formed b.next.move.before asker.2.train in
          one_waits tables times c i asker.0 answer.0 later b asker.1 asker.2.train
          (λ granted. facts.1 (subst (Answers T c.yard.positions asker.0) granted answer.1)) answer.1
          (rest asker.0 (omega (arith, less_left tables c i asker.0 later b asker.2.train more)) (still_before tables c i asker.0 later b asker.2.train more))
    ]

-- as long as a train before train i isn't due after its tick, it asks in vain
waits : (tables : List Offer) (times : List (List (List ℕ))) (steps : ℕ) (c : Clock) (i : ℕ) (later : List ℕ) → Before tables c i later
    → left c later (trains (in_force tables c.yard)) ≡ steps → Waits tables times c later
waits tables times zero c i later b is = next_waits tables times zero c i later b is (λ j fewer. absurd (omega arith))
waits tables times (suc steps) c i later b is = next_waits tables times (suc steps) c i later b is (λ j fewer before. waits tables times steps (waited c j) i later before (omega arith))

-- a train moves, after asks in vain
leads_moved : (tables : List Offer) (times : List (List (List ℕ))) (y : Yard) (w : Watched) (lines : List Line) (i : ℕ) (v : Watched) → IsTable (in_force tables y)
    → (IsNextDue tables y → ⊥) → length w.due ≡ trains (in_force tables y) → MovesNext (in_force tables y) y.positions w.due i → Grants w i (time times y.table i (place y.positions i)) v
    → Leads tables times y w lines (moved y i) v (lines ++ move_line tables y i ∷ [])
leads_moved tables times y w lines i v formed undue one_each next g =
    let T = in_force tables y in
    let b : Before tables (clock y w) i g.later = record { formed = formed; undue = undue; one_each = one_each; next = next; puts_off = g.puts_off } in
    let vain = waits tables times (left (clock y w) g.later (trains T)) (clock y w) i g.later b refl in
    let tick : ℕ = slice_index w.due i in
    let i_put : slice_index g.later i ≡ max tick (not_before i tick i) = g.puts_off.1 i (omega (arith, next.move.train)) in
    let i_tick : slice_index g.later i ≡ tick = elim (put_cases i tick i) [ inl below ↦ absurd (omega (arith, below.0)) | inr behind ↦ omega (arith, behind.1) ] in
    let c : Clock = record { yard = y; due = g.later; now = vain.now } in
    let e : Stamped = record { tick = tick; entry = record { who = i; reply = Driver Yes } } in
    let asks : next_asker c (trains T) ≡ Some i = asks_next c (trains T) i (record {
      train = next.move.train;
      least = λ j lt.
          let j_put : slice_index g.later j ≡ max (slice_index w.due j) (not_before i tick j) = g.puts_off.1 j (omega arith) in
          elim (put_cases i tick j) [ inl below ↦ omega (arith, below.1) | inr behind ↦ omega (arith, behind.1) ];
      first = λ j lt.
          let j_put : slice_index g.later j ≡ max (slice_index w.due j) (not_before i tick j) = g.puts_off.1 j (omega (arith, next.move.train)) in
          elim (put_cases i tick j) [ inl below ↦ omega (arith, below.1) | inr behind ↦ absurd (omega (arith, behind.0)) ];
    }) in
    let takes : ℕ = time times y.table i (place y.positions i) in
    let due_is : v.due ≡ slice_set g.later i (slice_index g.later i + takes) = g.due ∙ ap (λ (t : ℕ). slice_set g.later i (t + takes)) (sym i_tick) in
    let now_is : v.last ≡ slice_index g.later i = g.last ∙ sym i_tick in
    record {
      entries = vain.entries ++ e ∷ [];
      added = (tick, move_line tables y i) ∷ [];
      timed = λ later t. subst (IsTimed tables times (clock y w)) (sym (append_assoc vain.entries (e ∷ []) later))
          (vain.timed (e ∷ later) (
            (undue, not_arrived T y.positions i next.move, asks, sym i_tick, (next.move.train, next.move)),
            subst (λ (d : List ℕ). IsTimed tables times (record { yard = moved y i; due = d; now = slice_index g.later i }) later) due_is
                (subst (λ (n : ℕ). IsTimed tables times (record { yard = moved y i; due = v.due; now = n }) later) now_is t),
          ));
      told = λ later. ap (timed_lines tables y) (append_assoc vain.entries (e ∷ []) later) ∙ vain.no_lines (e ∷ later);
      after = refl;
      adds = refl;
      ticks = g.ticks;
      last = g.last;
    }

pub leads_granted : (tables : List Offer) (times : List (List (List ℕ))) (y z : Yard) (w v : Watched) (lines longer : List Line) (i takes : ℕ) → IsTable (in_force tables y) → (IsNextDue tables y → ⊥)
    → length w.due ≡ trains (in_force tables y) → MovesNext (in_force tables y) y.positions w.due i → takes ≡ time times y.table i (place y.positions i) → Grants w i takes v
    → z ≡ moved y i → longer ≡ lines ++ move_line tables y i ∷ [] → Leads tables times y w lines z v longer
leads_granted tables times y z w v lines longer i takes formed undue one_each next takes_is g after adds =
    subst (λ (o : Yard). Leads tables times y w lines o v longer) (sym after)
    (subst (λ (ls : List Line). Leads tables times y w lines (moved y i) v ls) (sym adds)
    (leads_moved tables times y w lines i v formed undue one_each next (subst (λ (t : ℕ). Grants w i t v) takes_is g)))
