-- Rows: what the answers of requests and exchanges say on small yards, and wrong answers that they refuse.
use Rattle.zone_yard.proofs.Prelude.{◌≡◌, ℕ, zero, suc, ◌<◌, List, [], ◌∷◌, ◌++◌, length, append-nil, true, true≢false, Some, refl, sym, subst, arith, lit<, inl, Occupied, Driver, Control, Entry, Table, IsHistory, journal_of, has, SharedYard, state_after, IsLegalHistory, Pass, told, receipts_from, entries_of, standing, Enters, Replies}
use Rattle.std.proofs.Common.{ℤ, pos, ◌≤ℤ◌, lit≤}
use Rattle.std.proofs.lemmas.Int.{ints}
use Rattle.rail_model.specs.declared.types.Tried.TheVariants.{Exchanged, Early}
use Rattle.rail_model.specs.declared.types.Reply.{Reply}
use Rattle.rail_model.specs.declared.types.Line.TheVariants.{Move as MoveLine, Table as TableLine}
use Rattle.rail_model.specs.Move.{Move, advance}
use Rattle.rail_model.specs.Yard.{IsAnswer}
use Rattle.rail_model.proofs.MoveTests.{is_move, Decides-move}
use Rattle.rail_model.proofs.Told.{told as admits}
use Rattle.zone_yard.specs.declared.replies.Reply.TheVariants as one
use Rattle.zone_yard.specs.declared.replies.Turn.TheVariants as turn
use Rattle.zone_yard.specs.Passes.{IsFree}
use Rattle.zone_yard.specs.Replies.{Turns, needed_zones}
use Rattle.zone_yard.proofs.Samples.{table_of, boarded, grant, yes, four_zones, one_zone, two_tables}

-- a move that the checker computes
pub goes : (T : Table) (p : List ℕ) (i : ℕ) → is_move T p i ≡ true → Move T p i (advance p i)
goes T p i h = (Decides-move T p i).0 h

-- a free pass enters these replies after all that it has seen and some more
module _ (old : Pass) (more : List Entry) (replies : List Reply) (position : ℕ) where
  abbrev pub told_at : Pass
  told_at = record old {
    position = position;
    seen = (old.seen ++ more) ++ told old.number replies;
    mine = old.mine ++ receipts_from (length (old.seen ++ more)) (told old.number replies);
  }

  abbrev pub enters : entries_of old.number told_at.seen ≡ told_at.mine → position ≡ standing (state_after old.yard.setup told_at.seen) old.number → IsFree old
      → IsLegalHistory old.yard.setup told_at.seen → Enters (length (old.seen ++ more)) replies old told_at
  enters own stands free legal = record {
    before = old.seen ++ more;
    begins = (more, refl);
    counted = refl;
    seen = refl;
    legal = legal;
    mine = refl;
    own = own;
    stands = stands;
    number = refl;
    yard = refl;
    tries = ([], sym (append-nil old.tries));
    free = free;
  }

pub nothing : {A : Type 0} (xs : List A) → length xs ≡ 0 → xs ≡ []
nothing [] e = refl
nothing (x ∷ xs) e = absurd (omega arith)

-- E to F while A to B holds both its zones
abbrev pub found_held : Pass
found_held = record (boarded (four_zones 9) 2) { tries = record { zone = 1; found = 1; glanced = 0 } ∷ [] }

busy : Replies (boarded (four_zones 9) 2) (one.Busy 1 0) found_held
busy = (lit< tt, record { earlier = []; glanced = 0; tries = refl; another = (λ e. cc); pass = lit< tt; listed = lit< tt; needed = refl; rest = refl; free = (refl, refl) })

-- a pass isn't held up by itself, nor by what is no pass, nor at a zone that it doesn't need
not_itself : (new : Pass) → Replies (boarded (four_zones 9) 2) (one.Busy 1 2) new → ⊥
not_itself new r = r.1.another refl

not_by_nobody : (new : Pass) → Replies (boarded (four_zones 9) 2) (one.Busy 1 33) new → ⊥
not_by_nobody new r = let low = r.1.pass in omega (arith, low)

not_there : (new : Pass) → Replies (boarded (four_zones 9) 2) (one.Busy 2 0) new → ⊥
not_there new r = go r.1.glanced r.1.listed r.1.needed
  where
    go : (g : ℕ) → g < 1 → has 2 (needed_zones (boarded (four_zones 9) 2) g 1) ≡ true → ⊥
    go zero lt h = true≢false (sym h)
    go (suc g) lt h = omega (arith, lt)

-- the pass after its first grant, where so much was seen before
abbrev pub granted_after : SharedYard → ℕ → List Entry → Pass
granted_after yard p before = record (boarded yard p) {
  position = 1;
  seen = before ++ yes p ∷ [];
  mine = record { ticket = length before; entry = yes p } ∷ [];
}

first_grant : Replies (boarded one_zone 0) (one.Granted 0) (granted_after one_zone 0 [])
first_grant = (
  lit< tt,
  enters (boarded one_zone 0) [] (grant ∷ []) 1 refl refl (refl, refl) ((lit< tt, goes (table_of ((0 ∷ 1 ∷ []) ∷ (2 ∷ 3 ∷ []) ∷ [])) (0 ∷ 0 ∷ []) 0 refl), tt),
)

-- C to D is granted at ticket 1, after the other train's grant, of which its pass had not heard
second_grant : Replies (boarded one_zone 1) (one.Granted 1) (granted_after one_zone 1 (yes 0 ∷ []))
second_grant = (
  lit< tt,
  enters (boarded one_zone 1) (yes 0 ∷ []) (grant ∷ []) 1 refl refl (refl, refl) (
    (lit< tt, goes (table_of ((0 ∷ 1 ∷ []) ∷ (2 ∷ 3 ∷ []) ∷ [])) (0 ∷ 0 ∷ []) 0 refl),
    ((lit< tt, goes (table_of ((0 ∷ 1 ∷ []) ∷ (2 ∷ 3 ∷ []) ∷ [])) (1 ∷ 0 ∷ []) 1 refl), tt),
  ),
)

-- the first answer of all can't be that the other train is in the way
not_occupied : (new : Pass) → Replies (boarded one_zone 0) (one.Occupied 0 1) new → ⊥
not_occupied new r =
    let e = r.1 in
    let none : e.before ≡ [] = nothing e.before e.counted in
    let answer = subst (λ H. IsHistory one_zone.setup.tables one_zone.setup.opening.yard (H ++ record { who = 0; reply = Driver (Occupied 1) } ∷ [])) none
    (subst (IsHistory one_zone.setup.tables one_zone.setup.opening.yard) e.seen e.legal) in
    let by = answer.0.1.1 in
    absurd (cc (by.2.1, by.2.2))

-- a pass that may make one entry has made it
abbrev pub one_made : Pass
one_made = granted_after (four_zones 1) 0 []

spent : Replies one_made one.Spent one_made
spent = (refl, (refl, (refl, refl)))

not_yet_spent : (new : Pass) → Replies (boarded (four_zones 1) 0) one.Spent new → ⊥
not_yet_spent new r = cc r.0

-- the second table is due at once, and takes over before the train has asked
abbrev pub exchange : Entry
exchange = record { who = 32; reply = Control Exchanged }

abbrev pub exchanged : Pass
exchanged = record (boarded two_tables 32) { position = 1; seen = exchange ∷ []; mine = record { ticket = 0; entry = exchange } ∷ [] }

takes_over : IsAnswer two_tables.setup.tables two_tables.setup.opening.yard exchange
takes_over = (refl, lit< tt, ((lit< tt, inl (lit≤ tt)), admits (table_of ((0 ∷ 1 ∷ []) ∷ [])) (table_of ((0 ∷ 2 ∷ []) ∷ [])) (0 ∷ []) (λ s. low _ refl)))
  where
    low : (z : ℤ) → z ≡ pos 0 → pos 0 ≤ℤ z
    low z e = omega (arith, ints)

turned : Turns (boarded two_tables 32) (turn.Exchanged 0) exchanged
turned = (
  lit< tt,
  lit< tt,
  enters (boarded two_tables 32) [] (Control Exchanged ∷ []) 1 refl refl (refl, refl) (takes_over, tt),
)

-- a table that is due isn't told that it is early
not_early : (new : Pass) → Turns (boarded two_tables 32) (turn.Early 0 0) new → ⊥
not_early new r =
    let e = r.2 in
    let none : e.before ≡ [] = nothing e.before e.counted in
    let answer = subst (λ H. IsHistory two_tables.setup.tables two_tables.setup.opening.yard (H ++ record { who = 32; reply = Control (Early 0) } ∷ [])) none
    (subst (IsHistory two_tables.setup.tables two_tables.setup.opening.yard) e.seen e.legal) in
    answer.0.2.2 (lit< tt, inl (lit≤ tt))

-- the train, which glanced the first table, is then led by the second
after_exchange : Replies (boarded two_tables 0) (one.Granted 1) (granted_after two_tables 0 (exchange ∷ []))
after_exchange = (
  lit< tt,
  enters (boarded two_tables 0) (exchange ∷ []) (grant ∷ []) 1 refl refl (refl, refl) (takes_over, ((lit< tt, goes (table_of ((0 ∷ 2 ∷ []) ∷ [])) (0 ∷ []) 0 refl), tt)),
)

printed : journal_of two_tables.setup.tables two_tables.setup.opening.yard (exchange ∷ yes 0 ∷ []) ≡ TableLine 1 ∷ MoveLine 0 0 (Some 2) ∷ []
printed = refl
