-- The round robin over several tables, turn by turn.
use Rattle.std.proofs.Common.{◌≡◌, ◌⊎◌, ℕ, ◌+◌, ◌-◌, ◌*◌, ◌%◌, ◌<◌, ◌≤◌, List, [], ◌∷◌, length, sym, ◌∙◌, ap, subst, arith, inl, inr}
use Rattle.std.specs.Prelude.{true}
use Rattle.std.proofs.lemmas.Bool.{cases_lt, cases_eq}
use Rattle.std.proofs.lemmas.List.{append-nil}
use Rattle.std.proofs.Math.Nat.{add-mod_right, mod-eq_of_lt}
use Rattle.rail_model.specs.declared.types.Line.{Line}
use Rattle.rail_model.specs.Table.{Table, IsTable, trains, last, place}
use Rattle.rail_model.specs.State.{Legal, Arrived, remaining}
use Rattle.rail_model.specs.Move.{Move, advance, Live}
use Rattle.rail_model.specs.Yard.{Offer, Yard, in_force, IsNextDue, moved}
use Rattle.rail_model.specs.Journal.{IsRound, IsDone, IsNextMover}
use Rattle.rail_model.proofs.Moves.{remaining_move}
use Rattle.rail_model.proofs.Live.{arrived_or_moves}
use Rattle.table_exchange.specs.Tables.{AreTables, Stands}
use Rattle.table_exchange.proofs.Standings.{sum_bound}
use Rattle.rail_model.specs.Lines.{move_line}
use Rattle.plain_yard.specs.Rounds.{Reaches, Finishes, Went}
use Rattle.plain_yard.proofs.Reaching.{reaches_trans}

-- the train that is k places after the last mover has no move
abbrev pub Skips : List Offer → Yard → ℕ → ℕ → Type 0
Skips tables y before k =
    let T = in_force tables y in
    Move T y.positions ((before + 1 + k) % trains T) (advance y.positions ((before + 1 + k) % trains T)) → ⊥

-- A turn of the round robin: from the last mover on, this many trains were asked, and none of them has a move.
pub record Turn (tables : List Offer) (y0 : Yard) (b0 : ℕ) (ls0 : List Line) (y : Yard) (before asked : ℕ) (ls : List Line) : Type 0 where
  pub formed : IsTable (in_force tables y)
  pub reaches : Reaches tables y0 b0 ls0 y before ls
  pub not_due : IsNextDue tables y → ⊥
  pub in_round : 0 < trains (in_force tables y) → before < trains (in_force tables y)
  pub few : asked ≤ trains (in_force tables y)
  pub skipped : (k : ℕ) → k < asked → Skips tables y before k

-- all tables have the same trains
pub same_trains : (tables : List Offer) (y z : Yard) → AreTables tables → Stands tables y → Stands tables z → trains (in_force tables y) ≡ trains (in_force tables z)
same_trains tables y z are s t = are.same y.table s.in_range ∙ sym (are.same z.table t.in_range)

pub declines : (tables : List Offer) (y0 y : Yard) (b0 before asked : ℕ) (ls0 ls : List Line) → asked < trains (in_force tables y) → Skips tables y before asked
    → Turn tables y0 b0 ls0 y before asked ls → Turn tables y0 b0 ls0 y before (asked + 1) ls
declines tables y0 y b0 before asked ls0 ls more none t = record {
  formed = t.formed;
  reaches = t.reaches;
  not_due = t.not_due;
  in_round = t.in_round;
  few = omega arith;
  skipped = λ k lt. elim (cases_eq k asked) [
    | inl same ↦ subst (Skips tables y before) (sym same) none
    | inr other ↦ t.skipped k (omega arith)
  ];
}

-- a move goes on from the last mover to the next
moves_on : (tables : List Offer) (y z : Yard) (before asked i : ℕ) (ls longer : List Line) → asked < trains (in_force tables y) → i ≡ (before + 1 + asked) % trains (in_force tables y)
    → ((k : ℕ) → k < asked → Skips tables y before k) → (IsNextDue tables y → ⊥) → Went tables y ls i true z longer → Reaches tables y before ls z i longer
moves_on tables y z before asked i ls longer more is skipped not_due went = record {
  added = move_line tables y i ∷ [];
  adds = went.2;
  after = went.0;
  round = λ later rest.
      let mover : IsNextMover (in_force tables y) y.positions before i = record { steps = asked; in_round = more; reached = is; skipped = skipped } in
      (went.1, not_due, mover, subst (λ (x : Yard). IsRound tables x i later) went.0 rest);
}

pub goes : (tables : List Offer) (y0 y z w : Yard) (b0 before asked i : ℕ) (ls0 ls ms ns : List Line) → asked < trains (in_force tables y) → i ≡ (before + 1 + asked) % trains (in_force tables y)
    → i < trains (in_force tables w) → Went tables y ls i true z ms → Reaches tables z i ms w i ns → IsTable (in_force tables w) → (IsNextDue tables w → ⊥)
    → Turn tables y0 b0 ls0 y before asked ls → Turn tables y0 b0 ls0 w i 0 ns
goes tables y0 y z w b0 before asked i ls0 ls ms ns more is within went then_on formed not_due t = record {
  formed = formed;
  reaches = reaches_trans tables y0 y w b0 before i ls0 ls ns t.reaches
      (reaches_trans tables y z w before i i ls ms ns
      (moves_on tables y z before asked i ls ms more is t.skipped t.not_due went) then_on);
  not_due = not_due;
  in_round = λ some. within;
  few = omega arith;
  skipped = λ k lt. absurd (omega arith);
}

-- each train is one of the n after the last
covers : (n before i : ℕ) → before < n → i < n → (k : ℕ) × (k < n) × ((before + 1 + k) % n ≡ i)
covers n before i lt_b lt_i = elim (cases_lt before i) [
  | inl above ↦
      let sum : before + 1 + (i - (before + 1)) ≡ i = omega arith in
      (i - (before + 1), omega arith, ap (λ (x : ℕ). x % n) sum ∙ mod-eq_of_lt lt_i)
  | inr below ↦
      let sum : before + 1 + (i + n - (before + 1)) ≡ i + n = omega arith in
      (i + n - (before + 1), omega arith, ap (λ (x : ℕ). x % n) sum ∙ add-mod_right i n ∙ mod-eq_of_lt lt_i)
]

-- all were asked and none moves: all have arrived, and no table is open
pub done : (tables : List Offer) (y0 y : Yard) (b0 before asked : ℕ) (ls0 ls : List Line) → Legal (in_force tables y) y.positions → Live (in_force tables y)
    → trains (in_force tables y) ≤ asked → Turn tables y0 b0 ls0 y before asked ls → IsDone tables y
done tables y0 y b0 before asked ls0 ls legal live all t =
    let T = in_force tables y in
    let none : (i : ℕ) → Move T y.positions i (advance y.positions i) → ⊥ = λ i m.
    let c = covers (trains T) before i (t.in_round (omega (arith, m.train))) m.train in
    t.skipped c.0 (omega (arith, c.1, all)) (subst (λ (j : ℕ). Move T y.positions j (advance y.positions j)) (sym c.2) m) in
    let arrived : Arrived T y.positions = elim (arrived_or_moves T y.positions live legal) [ inl there ↦ there | inr w ↦ absurd (none w.0 w.1) ] in
    (arrived, λ still. t.not_due (still, inr arrived))

pub finishes : (tables : List Offer) (y0 y : Yard) (b0 before asked : ℕ) (ls0 ls : List Line) → IsDone tables y → Turn tables y0 b0 ls0 y before asked ls → Finishes tables y0 b0 ls0 y ls
finishes tables y0 y b0 before asked ls0 ls end t = record {
  added = t.reaches.added;
  adds = t.reaches.adds;
  after = t.reaches.after;
  round = subst (IsRound tables y0 b0) (append-nil t.reaches.added) (t.reaches.round [] end);
}

-- the measure: tables without an answer, moves that remain, and trains to be asked
abbrev pub left : List Offer → Yard → ℕ → ℕ
left tables y asked =
    (length tables - y.tried) * 200000 + (remaining (in_force tables y) y.positions * 33 + (trains (in_force tables y) - asked))

few_remain : (T : Table) (p : List ℕ) → IsTable T → remaining T p ≤ 4064
few_remain T p t =
    let sum : remaining T p ≤ trains T * 127 = sum_bound (λ i. last T i - place p i) (trains T) 127 (λ i lt. omega (arith, (t.missions i lt).few_places)) in
    omega (arith, t.few_trains)

pub falls : (tables : List Offer) (y z w : Yard) (i asked : ℕ) → Move (in_force tables y) y.positions i (advance y.positions i) → z ≡ moved y i
    → (w ≡ z) ⊎ (z.tried < w.tried) → w.tried < length tables → IsTable (in_force tables y) → IsTable (in_force tables w) → left tables w 0 < left tables y asked
falls tables y z w i asked move z_is (inl same) w_in formed new_formed =
    let w_is : w ≡ moved y i = same ∙ z_is in
    let fewer : remaining (in_force tables y) y.positions ≡ remaining (in_force tables y) (advance y.positions i) + 1 = remaining_move (in_force tables y) y.positions i (advance y.positions i) move in
    subst (λ x. left tables x 0 < left tables y asked) (sym w_is) (omega (arith, formed.few_trains))
falls tables y z w i asked move z_is (inr more) w_in formed new_formed =
    let tried : z.tried ≡ y.tried = ap (λ (x : Yard). x.tried) z_is in
    omega (arith, few_remain (in_force tables w) w.positions new_formed, new_formed.few_trains)
