-- What the control's append that is allowed says of it, and the world that it leaves.
use Rattle.zone_machine.proofs.Prelude.{◌≡◌, ◌⊎◌, inl, inr, ℕ, ◌+◌, ◌≤◌, nat_lt, List, [], ◌∷◌, ◌++◌, length, get_or, Bool, cond, None, ap, ◌∙◌, subst, ltb-false, length-append, Tried, Early, Control, Entry, below, Offer, control, offer, then_some-none, passing, Append, Setup, Actor, World, actor, table_of, has_more, known_table, tried, refusal, append_checks, after_control, Sound, IsSetup, CoreValue, IsCore}
use Rattle.std.proofs.Common.{set}
use Rattle.std.specs.Prelude.{◌↔◌, IsTrue}
use Rattle.rail_model.specs.Checks.{is_due, admitted}
use Rattle.rail_model.specs.Table.{Table}
use Rattle.std.proofs.lemmas.Bool.Decides.{same_from_decides}
use Rattle.rail_model.specs.State.{Arrived}
use Rattle.rail_model.proofs.StateTests.{due as due_test}
use Rattle.zone_machine.specs.declared.steps.NotAllowed.TheVariants as no
use Rattle.zone_machine.specs.Entries.{known_positions, moves_to, control_after}
use Rattle.zone_machine.specs.Entered.{control_told}
use Rattle.zone_machine.proofs.Acting.{passed, there, is_row, allowed_here}
use Rattle.zone_machine.proofs.Allowed.{Passes, asked}
use Rattle.zone_machine.proofs.ControlAppends.{tell, is_told}
use Rattle.zone_machine.specs.ControlAsked.{IsTold}

-- what is due, as the code asks for it
pub same_due : (T : Table) (p : List ℕ) (moves after : ℕ) (due arrived : Bool) → IsTrue due ↔ ((after ≤ moves) ⊎ IsTrue arrived) → IsTrue arrived ↔ Arrived T p
    → due ≡ is_due T p moves after
same_due T p moves after due arrived asks ends =
    same_from_decides due (is_due T p moves after) (
      λ e. elim (asks.0 e) [ inl le ↦ inl le | inr all ↦ inr (ends.0 all) ],
      λ d. asks.1 (elim d [ inl le ↦ inl le | inr all ↦ inr (ends.1 all) ]),
    )
    (due_test T p moves after)

module _ (S : Setup) (w : World) (ok : IsSetup S) (s : Sound S w) (allowed : refusal S control w Append ≡ None) where
  abbrev a : Actor
  a = actor w control

  passes : Passes (append_checks S control w a 1)
  passes = passed S w control Append allowed

  pub control_told_here : IsTold S a
  control_told_here = let h = asked S w control a 1 passes in is_told S ok w a s (there S w control Append allowed) h.0 h.1 h.2 h.3 (passing (has_more S a) h.4)

  pub room_here : length w.history + 1 ≤ S.most
  room_here = ltb-false S.most (length w.history + 1) (then_some-none (nat_lt S.most (length w.history + 1)) (no.Full S.most) passes.1.1.1.1.1.0)

-- the same of the row that was found
module _ (v now : CoreValue) (core : IsCore v) (is : v ≡ now) (allowed : refusal now.setup control now.world Append ≡ None) where
  pub told_at : (d a : Actor) → d ≡ get_or v.world.actors control d → a ≡ d → IsTold v.setup a
  told_at d a found same =
      subst (IsTold v.setup) (is_row v now control Append core is allowed d a found same)
      (control_told_here v.setup v.world core.made core.sound (allowed_here v now control Append core is allowed))

  pub room_at : length v.world.history + 1 ≤ v.setup.most
  room_at = room_here v.setup v.world core.made core.sound (allowed_here v now control Append core is allowed)

-- what was written is the world after the control's append
module _ (S : Setup) (w : World) (a : Actor) (old : Table) (next : Offer) (positions : List ℕ) (moves : ℕ) (told : Tried)
    (old_is : old ≡ table_of S (known_table a)) (next_is : next ≡ offer S.tables (a.position + 1))
    (positions_are : positions ≡ known_positions S a) (moves_are : moves ≡ moves_to S positions)
    (told_is : told ≡ cond (is_due old positions moves next.after) (admitted old next.table positions) (Early moves)) where
  all_moves : moves ≡ moves_to S (known_positions S a)
  all_moves = moves_are ∙ ap (moves_to S) positions_are

  pub same_tried : told ≡ tried S a
  same_tried = told_is ∙ (λ i. tell (old_is i) (next_is i) (positions_are i) (all_moves i))

  same_row : control_told (below S.layout.zones) next.table positions told a ≡ control_after S a
  same_row = λ i. control_told (below S.layout.zones) (next_is i).table (positions_are i) (same_tried i) a

  pub control_world : (word : ℕ) (history : List Entry) (row : Actor) → history ≡ w.history ++ record { who = control; reply = Control told } ∷ []
      → word ≡ length history → row ≡ control_told (below S.layout.zones) next.table positions told a
      → record { words = set w.words 0 word; history = history; actors = set w.actors control row } ≡ after_control S control w a
  control_world word history row history_is word_is row_is =
      let entry : Tried → List Entry = λ r. w.history ++ record { who = control; reply = Control r } ∷ [] in
      let all : history ≡ entry (tried S a) = history_is ∙ ap entry same_tried in
      let count : word ≡ length w.history + 1 = word_is ∙ (ap length all ∙ length-append w.history (record { who = control; reply = Control (tried S a) } ∷ [])) in
      let own = row_is ∙ same_row in
      λ i. record { words = set w.words 0 (count i); history = all i; actors = set w.actors control (own i) }
