-- Rows of blocks: granted whole, cut to what remains or to the entries that are left, not whole, and wrong answers that are refused.
use Rattle.zone_yard.proofs.Prelude.{◌≡◌, ℕ, List, [], ◌∷◌, ◌++◌, refl, ap, ◌∙◌, subst, arith, lit<, Occupied, Driver, Entry, Table, IsHistory, offer, SharedYard, Pass, Enters, BlockReplies, steps_left}
use Rattle.std.proofs.Common.{min}
use Rattle.std.proofs.lemmas.Bool.Decides.{not_from_Decides}
use Rattle.rail_model.specs.declared.types.Ask.TheVariants.{Arrived}
use Rattle.rail_model.specs.declared.types.BlockAsk.TheVariants.{Yes}
use Rattle.rail_model.specs.declared.types.Reply.{Reply}
use Rattle.rail_model.specs.declared.types.Reply.TheVariants.{NotWhole}
use Rattle.rail_model.proofs.MoveTests.{Decides-move, run}
use Rattle.zone_yard.specs.declared.replies.BlockReply.TheVariants as block
use Rattle.zone_yard.specs.Replies.{steps_after}
use Rattle.zone_yard.specs.Blocks.{IsAnswered}
use Rattle.zone_yard.proofs.Samples.{boarded, grant, yes, first_path, passing_loop, corridor}
use Rattle.zone_yard.proofs.Rows.{goes, nothing, enters}

-- the table of such a yard
abbrev only : SharedYard → Table
only yard = (offer yard.setup.tables 0).table

-- at ticket 0 there was no entry before
from_start : (ticket : ℕ) (replies : List Reply) (old new : Pass) → ticket ≡ 0 → (e : Enters ticket replies old new) → e.before ≡ []
from_start ticket replies old new is e = nothing e.before (e.counted ∙ is)

-- both steps of the first path at once, though four are asked for
abbrev pub through : Pass
through = record (boarded (first_path 9) 0) {
  position = 2;
  seen = yes 0 ∷ yes 0 ∷ [];
  mine = record { ticket = 0; entry = yes 0 } ∷ record { ticket = 1; entry = yes 0 } ∷ [];
}

abbrev two_steps : BlockReplies 4 (boarded (first_path 9) 0) (block.Granted 0 2) through
two_steps = (
  lit< tt,
  (
    enters (boarded (first_path 9) 0) [] (grant ∷ grant ∷ []) 2 refl refl (refl, refl) ((lit< tt, goes (only (first_path 9)) (0 ∷ []) 0 refl), ((lit< tt, goes (only (first_path 9)) (1 ∷ []) 0 refl), tt)),
    refl,
  ),
)

-- four are asked for, and two remain
answered : IsAnswered 4 Yes 2 0 (boarded (first_path 9) 0) through
answered = record { entered = two_steps.1.0; remain = refl; can = lit< tt }

not_a_third : (new : Pass) → IsAnswered 4 Yes 3 0 (boarded (first_path 9) 0) new → ⊥
not_a_third new h =
    let old : Pass = boarded (first_path 9) 0 in
    let is : 3 ≡ 2 = h.remain ∙ ap (λ H. steps_left old H 4) (from_start 0 _ old new refl h.entered) in
    cc is

-- one step alone isn't all that was asked for
not_one_step : (new : Pass) → BlockReplies 4 (boarded (first_path 9) 0) (block.Granted 0 1) new → ⊥
not_one_step new r =
    let old : Pass = boarded (first_path 9) 0 in
    let is : 1 ≡ 2 = r.1.1 ∙ ap (λ H. steps_after old H 4) (from_start 0 _ old new refl r.1.0) in
    cc is

-- the next answer is that the train has arrived
abbrev at_end : Entry
at_end = record { who = 0; reply = Driver Arrived }

abbrev pub told_arrived : Pass
told_arrived = record through {
  seen = yes 0 ∷ yes 0 ∷ at_end ∷ [];
  mine = record { ticket = 0; entry = yes 0 } ∷ record { ticket = 1; entry = yes 0 } ∷ record { ticket = 2; entry = at_end } ∷ [];
}

arrives : BlockReplies 4 through (block.Arrived 2) told_arrived
arrives = (
  lit< tt,
  enters through [] (Driver Arrived ∷ []) 2 refl refl (refl, refl) (
    (lit< tt, goes (only (first_path 9)) (0 ∷ []) 0 refl),
    ((lit< tt, goes (only (first_path 9)) (1 ∷ []) 0 refl), ((lit< tt, refl), tt)),
  ),
)

-- in the passing loop the first of two steps could be made, and then the other train is in the way
abbrev held_back : Entry
held_back = record { who = 0; reply = NotWhole 1 (Occupied 1) }

abbrev pub kept_back : Pass
kept_back = record (boarded passing_loop 0) { seen = held_back ∷ []; mine = record { ticket = 0; entry = held_back } ∷ [] }

pub not_whole : BlockReplies 2 (boarded passing_loop 0) (block.NotWhole 0 1 (Occupied 1)) kept_back
not_whole = (
  lit< tt,
  (
    enters (boarded passing_loop 0) [] (NotWhole 1 (Occupied 1) ∷ []) 0 refl refl (refl, refl) (
      (
        lit< tt,
        (lit< tt, lit< tt, lit< tt, run (only passing_loop) (0 ∷ 0 ∷ []) (0 ∷ []) refl, (lit< tt, (lit< tt, (λ e. cc), (2, refl, refl))), (λ e. cc)),
      ),
      tt,
    ),
    lit< tt,
  ),
)

-- both steps can't be granted there
not_both : (new : Pass) → BlockReplies 2 (boarded passing_loop 0) (block.Granted 0 2) new → ⊥
not_both new r =
    let e = r.1.0 in
    let told = subst (λ H. IsHistory passing_loop.setup.tables passing_loop.setup.opening.yard (H ++ yes 0 ∷ yes 0 ∷ [])) (from_start 0 _ (boarded passing_loop 0) new refl e)
    (subst (IsHistory passing_loop.setup.tables passing_loop.setup.opening.yard) e.seen e.legal) in
    not_from_Decides _ (Decides-move (only passing_loop) (1 ∷ 0 ∷ []) 0) refl told.1.0.1

-- the first step alone is then granted
abbrev pub one_further : Pass
one_further = record (boarded passing_loop 0) {
  position = 1;
  seen = held_back ∷ yes 0 ∷ [];
  mine = record { ticket = 0; entry = held_back } ∷ record { ticket = 1; entry = yes 0 } ∷ [];
}

-- three steps of the corridor, and two of its other train
abbrev pub crossed : Pass
crossed = record (boarded corridor 0) {
  position = 3;
  seen = yes 0 ∷ yes 0 ∷ yes 0 ∷ [];
  mine = record { ticket = 0; entry = yes 0 } ∷ record { ticket = 1; entry = yes 0 } ∷ record { ticket = 2; entry = yes 0 } ∷ [];
}

crosses : BlockReplies 3 (boarded corridor 0) (block.Granted 0 3) crossed
crosses = (
  lit< tt,
  (
    enters (boarded corridor 0) [] (grant ∷ grant ∷ grant ∷ []) 3 refl refl (refl, refl) (
      (lit< tt, goes (only corridor) (0 ∷ 0 ∷ []) 0 refl),
      ((lit< tt, goes (only corridor) (1 ∷ 0 ∷ []) 0 refl), ((lit< tt, goes (only corridor) (2 ∷ 0 ∷ []) 0 refl), tt)),
    ),
    refl,
  ),
)

abbrev pub followed : Pass
followed = record (boarded corridor 1) {
  position = 2;
  seen = yes 0 ∷ yes 0 ∷ yes 0 ∷ yes 1 ∷ yes 1 ∷ [];
  mine = record { ticket = 3; entry = yes 1 } ∷ record { ticket = 4; entry = yes 1 } ∷ [];
}

follows : BlockReplies 2 (boarded corridor 1) (block.Granted 3 2) followed
follows = (
  lit< tt,
  (
    enters (boarded corridor 1) (yes 0 ∷ yes 0 ∷ yes 0 ∷ []) (grant ∷ grant ∷ []) 2 refl refl (refl, refl) (
      (lit< tt, goes (only corridor) (0 ∷ 0 ∷ []) 0 refl),
      (
        (lit< tt, goes (only corridor) (1 ∷ 0 ∷ []) 0 refl),
        (
          (lit< tt, goes (only corridor) (2 ∷ 0 ∷ []) 0 refl),
          ((lit< tt, goes (only corridor) (3 ∷ 0 ∷ []) 1 refl), ((lit< tt, goes (only corridor) (3 ∷ 1 ∷ []) 1 refl), tt)),
        ),
      ),
    ),
    refl,
  ),
)

-- no more steps than were asked for
not_three : (new : Pass) → BlockReplies 2 (boarded corridor 1) (block.Granted 3 3) new → ⊥
not_three new r = low _ r.1.1
  where
    low : (n : ℕ) → 3 ≡ min 2 n → ⊥
    low n e = omega arith

-- with one entry left, one step of four is asked for, and then none
abbrev pub one_step : Pass
one_step = record (boarded (first_path 1) 0) { position = 1; seen = yes 0 ∷ []; mine = record { ticket = 0; entry = yes 0 } ∷ [] }

last_entry : BlockReplies 4 (boarded (first_path 1) 0) (block.Granted 0 1) one_step
last_entry = (
  lit< tt,
  (
    enters (boarded (first_path 1) 0) [] (grant ∷ []) 1 refl refl (refl, refl) ((lit< tt, goes (only (first_path 1)) (0 ∷ []) 0 refl), tt),
    refl,
  ),
)

not_two_entries : (new : Pass) → BlockReplies 4 (boarded (first_path 1) 0) (block.Granted 0 2) new → ⊥
not_two_entries new r =
    let old : Pass = boarded (first_path 1) 0 in
    let is : 2 ≡ 1 = r.1.1 ∙ ap (λ H. steps_after old H 4) (from_start 0 _ old new refl r.1.0) in
    cc is

spent : BlockReplies 4 one_step block.Spent one_step
spent = (refl, (refl, (refl, refl)))
