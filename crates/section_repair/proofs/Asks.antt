-- The answers to trains in a legal state, as a test computes them.
use Rattle.std.proofs.Common.{◌≡◌, ◌≢◌, ℕ, suc, ◌<◌, ◌≤◌, ◌==◌, true, false, true≢false, not, List, [], length, refl, arith, ap, ◌∙◌, inl, inr, subst, sym}
use Rattle.std.specs.Prelude.{slice_index_or, pos, ◌≤ℤ◌}
use Rattle.std.proofs.lemmas.Int.{ints}
use Rattle.std.proofs.lemmas.List.{get_or_past}
use Rattle.std.proofs.lemmas.Bool.{cases_lt, eqb-true, eq-eqb, ne_eqb, not-true, and_parts}
use Rattle.rail_model.specs.declared.types.Ask.{Ask}
use Rattle.rail_model.specs.declared.types.Ask.TheVariants.{Yes, Arrived as AtEnd, Occupied, Full, Waits}
use Rattle.rail_model.specs.Table.{Table, Section, IsTable, trains, place, count, share, change}
use Rattle.rail_model.specs.State.{Legal}
use Rattle.rail_model.specs.Move.{Answers}
use Rattle.rail_model.specs.Checks.{ask}
use Rattle.rail_model.proofs.Agree.{Decides-int_lt}
use Rattle.rail_model.proofs.Asked.{asked, ask-agrees}
use Rattle.rail_model.proofs.Counts.{count_low, told_is_ask}
use Rattle.section_repair.specs.Claims.{WaitsFor, WaitsAgree}
use Rattle.section_repair.proofs.Told.{waits_by}

pub ask_answers : (T : Table) (p : List ℕ) (i : ℕ) (a : Ask) → IsTable T → Legal T p → i < trains T → a ≡ ask T p i → Answers T p i a
ask_answers T p i a table legal lt is = (ask-agrees T p i a legal lt (λ s. count_low T s p table)).1 is

pub full_section : (T : Table) (p : List ℕ) (i s n : ℕ) → IsTable T → Legal T p → i < trains T → Full s n ≡ ask T p i → s < length T.sections
full_section T p i s n table legal lt is = (ask_answers T p i (Full s n) table legal lt is).2.0.0

waits_told : (T : Table) (p : List ℕ) (i j : ℕ) (a : Ask) → j < trains T → Answers T p i a → waits_by T p i j a ≡ true → WaitsFor T p i j
waits_told T p i j Yes l told w = absurd (true≢false (sym w))
waits_told T p i j AtEnd l told w = absurd (true≢false (sym w))
waits_told T p i j (Occupied by) l told w = inl (subst (λ v. Answers T p i (Occupied v)) (sym (eqb-true j by w)) told)
waits_told T p i j (Full s n) l told w =
    let parts = and_parts (not (j == i)) _ w in
    let apart : j ≢ i = λ e. true≢false (sym (eq-eqb j i e) ∙ not-true _ parts.0) in
    inr (s, n, told, l, apart, (Decides-int_lt (pos 0) (share T j s (place p j))).0 parts.1)
waits_told T p i j (Waits c) l told w = absurd (true≢false (sym w))

pub waits_agree : WaitsAgree
waits_agree T p i j table legal li lj = (
  (λ w. waits_told T p i j (ask T p i) lj (asked T p i legal li (λ s. count_low T s p table)) w),
  (λ w. elim w [
    | inl told ↦ subst (λ a. waits_by T p i j a ≡ true) (told_is_ask T p i (Occupied j) table legal li told) (eq-eqb j j refl)
    | inr h ↦ subst (λ a. waits_by T p i j a ≡ true) (told_is_ask T p i (Full h.0 h.1) table legal li h.2)
        (let e : (j == i) ≡ false = ne_eqb j i h.4 in rw e ((Decides-int_lt (pos 0) (share T j h.0 (place p j))).1 h.5))
  ]),
)
