-- No run leaves a trap.
use Rattle.std.proofs.Common.{◌≡◌, ℕ, ◌+◌, ◌<◌, ◌≤◌, true, pos, ◌+ℤ◌, ◌≤ℤ◌, ◌<ℤ◌, List, [], ◌∷◌, length, refl, arith, ap, ◌∙◌, inl, inr, subst, sym, Some}
use Rattle.std.specs.Prelude.{IsTrue}
use Rattle.std.proofs.lemmas.Bool.Decides.{eqb_tells, leb_tells}
use Rattle.std.proofs.lemmas.Int.{ints}
use Rattle.rail_model.specs.Table.{Table, IsTable, trains, last, point, limit, change, place, count}
use Rattle.rail_model.specs.State.{Legal}
use Rattle.rail_model.specs.Move.{Move, Run}
use Rattle.rail_model.specs.Certificate.{IsIn}
use Rattle.rail_model.proofs.Moves.{place_moved, place_other}
use Rattle.forbidden_states.specs.Forbid.{Stay, AreStays, InStays}
use Rattle.state_core.specs.Core.{has, count_within, IsKept, CanArrive}
use Rattle.state_core.specs.Guard.{IsGuard}
use Rattle.state_core.specs.Trap.{IsPlaced, IsAmong, EndsEarly, KeepsEnds, IsTrap, IsCrowded, IsOverWithin, Holds, EachCombination, TrapsAreGuards, group_of}
use Rattle.state_core.proofs.Holding.{StandAlike, count_alike, within_count, kept_stays}
use Rattle.state_core.proofs.Combined.{has_member, stay_with, in_stay, all_in, combined}

some_stay : (b : List Stay) (s : Stay) → IsAmong b s → 0 < length b
some_stay [] s a = absurd a
some_stay (t ∷ later) s a = omega arith

in_trains : (n : ℕ) (c : List Stay) (v : Stay) → AreStays n c → IsAmong c v → v.train < n
in_trains n [] v stays a = absurd a
in_trains n (t ∷ later) v stays a = elim a [
  | inl e ↦ subst (λ (w : Stay). w.train < n) e stays.0
  | inr h ↦ in_trains n later v stays.3 h
]

module _ (T : Table) (b : List Stay) (table : IsTable T) (trap : IsTrap T b) where
  module _ (r m : List ℕ) (i : ℕ) (move : Move T r i m) (inside : InStays r b) where
    -- a train of the trap that moves isn't at the end of its stay
    before_end : (s : Stay) → IsAmong b s → s.train ≡ i → place r i < s.range.hi
    before_end s a same =
        let here : place r s.train ≡ place r i = ap (place r) same in
        let ends : last T s.train ≡ last T i = ap (last T) same in
        let moved : place m i ≡ place r i + 1 =
        ap (λ v. place v i) move.step ∙ place_moved r i (omega (arith, move.before.one_each, move.train)) in
        let high : place m i ≤ last T i = move.after.in_range i move.train in
        let low : place r s.train ≤ s.range.hi = (in_stay r b s inside a).1 in
        elim (leb_tells s.range.hi (place r i)) [
          | inr later ↦ later.1
          | inl end ↦
              let member : IsTrue (has (group_of b) i) =
              subst (λ k. has (group_of b) k ≡ true) same (has_member b s a) in
              let kept : IsKept T r (group_of b) s.train =
              trap.kept r move.before inside s a (omega (arith, end.1, low, here))
              (omega (arith, end.1, high, moved, ends)) in
              absurd (kept_stays T r (group_of b) table r m i (λ j lt h. refl) move member
              (subst (IsKept T r (group_of b)) same kept))
        ]

    still_in : (s : Stay) → IsAmong b s → IsIn (place m s.train) s.range
    still_in s a =
        let was = in_stay r b s inside a in
        elim (eqb_tells s.train i) [
          | inl e ↦
              let same : s.train ≡ i = e.1 in
              let early : place r i < s.range.hi = before_end s a same in
              let here : place r s.train ≡ place r i = ap (place r) same in
              let there : place m s.train ≡ place m i = ap (place m) same in
              let moved : place m i ≡ place r i + 1 =
              ap (λ v. place v i) move.step ∙ place_moved r i (omega (arith, move.before.one_each, move.train)) in
              (omega (arith, was.0, here, there, moved), omega (arith, early, there, moved))
          | inr e ↦
              let same : place m s.train ≡ place r s.train =
              ap (λ v. place v s.train) move.step ∙ place_other r i s.train e.1 in
              (omega (arith, was.0, same), omega (arith, was.1, same))
        ]

  stays_in : (r l q : List ℕ) → InStays r b → Run T r l q → InStays q b
  stays_in r [] q inside run = subst (λ v. InStays v b) (sym run) inside
  stays_in r (i ∷ later) q inside run =
      stays_in run.0 later q (all_in run.0 b (still_in r run.0 i run.1 inside)) run.2

  trap_lost : (p : List ℕ) → InStays p b → CanArrive T p → ⊥
  trap_lost p inside run =
      let s : Stay = trap.early.0 in
      let there = in_stay run.1 b s (stays_in p run.0 run.1 inside run.2) trap.early.1 in
      omega (arith, there.1, trap.early.2, run.3 s.train (in_trains (trains T) b s trap.stays trap.early.1))

pub traps_are_guards : TrapsAreGuards
traps_are_guards T b table trap = record {
  stays = trap.stays;
  some = some_stay b trap.early.0 trap.early.1;
  lost = λ p legal inside run. trap_lost T b table trap p inside run;
}

-- ---- traps by their combinations

module _ (T : Table) (group p r : List ℕ) (table : IsTable T) (alike : StandAlike T group p r) where
  -- what keeps a train there keeps it in a state that has the group's trains at the same places
  kept_alike : (i : ℕ) → i < trains T → IsTrue (has group i) → IsKept T p group i → IsKept T r group i
  kept_alike i lt member kept =
      let here : place r i ≡ place p i = alike i lt member in
      elim kept [
        | inl w ↦ inl (
          w.0,
          w.1,
          (
            w.2.0,
            w.2.1,
            (
              w.2.2.0,
              subst (λ k. point T i (k + 1) ≡ Some w.2.2.0) (sym here) w.2.2.1,
              subst (λ k. point T w.0 k ≡ Some w.2.2.0) (sym (alike w.0 w.2.0 w.1)) w.2.2.2,
            ),
          ),
        )
        | inr u ↦ elim u [
          | inl w ↦ inr (inl (
            w.0,
            w.1,
            subst (λ k. pos 0 <ℤ change T i w.0 (k + 1)) (sym here) w.2,
            subst (λ k. pos (limit T w.0) <ℤ (count_within T group w.0 r +ℤ change T i w.0 (k + 1))) (sym here)
                (subst (λ z. pos (limit T w.0) <ℤ (z +ℤ change T i w.0 (place p i + 1)))
                (sym (count_alike T group w.0 p r alike)) w.3),
          ))
          | inr w ↦ inr (inr (
            w.0,
            w.1,
            w.2,
            w.3,
            w.4 ∙ sym here,
            (let there : place r w.1.other ≡ place p w.1.other = alike w.1.other
                (table.connections w.0 w.1 w.2).other w.6 in omega (arith, there, w.5)),
            w.6,
          ))
        ]
      ]

  not_crowded : Legal T r → IsCrowded T p group → ⊥
  not_crowded legal c =
      legal.apart c.train c.other c.meet.0 c.train_in.0 c.other_in.0 c.two
      (subst (λ k. point T c.train k ≡ Some c.meet.0) (sym (alike c.train c.train_in.0 c.train_in.1)) c.meet.1)
      (subst (λ k. point T c.other k ≡ Some c.meet.0) (sym (alike c.other c.other_in.0 c.other_in.1)) c.meet.2)

  not_over : Legal T r → IsOverWithin T p group → ⊥
  not_over legal w =
      let s : ℕ = w.0 in
      let part : count_within T group s r ≤ℤ count T s r = within_count T group s r table w.1 legal in
      let same : count_within T group s r ≡ count_within T group s p = count_alike T group s p r alike in
      let fits : count T s r ≤ℤ pos (limit T s) = legal.within s w.1 in
      omega (arith, ints, part, same, fits, w.2)

  keeps_alike : (b : List Stay) → group_of b ≡ group → AreStays (trains T) b → Legal T r → Holds T b p → KeepsEnds T b r
  keeps_alike b is stays legal holds s a at early = elim holds [
    | inl barred ↦ elim barred [
      | inl c ↦ absurd (not_crowded legal (subst (IsCrowded T p) is c))
      | inr w ↦ absurd (not_over legal (subst (IsOverWithin T p) is w))
    ]
    | inr keeps ↦
        let lt : s.train < trains T = in_trains (trains T) b s stays a in
        let member : IsTrue (has group s.train) = subst (λ g. has g s.train ≡ true) is (has_member b s a) in
        subst (λ g. IsKept T r g s.train) (sym is)
        (kept_alike s.train lt member (subst (λ g. IsKept T p g s.train) is
        (keeps s a (sym (alike s.train lt member) ∙ at) early)))
  ]

pub trap_from : (T : Table) (b : List Stay) (p : List ℕ) → IsTable T → AreStays (trains T) b → (s : Stay) × IsAmong b s
    × EndsEarly T s →
    IsPlaced T p → EachCombination (Holds T b) b p → IsTrap T b
trap_from T b p table stays early placed each = record {
  stays = stays;
  early = early;
  kept = λ r legal inside.
      (let w = combined (Holds T b) (trains T) b p r placed.one_each stays inside each in
      keeps_alike T (group_of b) w.0 r table
      (λ i lt member.
      (let s = stay_with b i member in
      sym (subst (λ j. place w.0 j ≡ place r j) s.2 (w.2.inside s.0 s.1))))
      b refl stays legal w.1);
}

pub guard_from : (T : Table) (b : List Stay) (p : List ℕ) → IsTable T → AreStays (trains T) b → (s : Stay) × IsAmong b s
    × EndsEarly T s →
    IsPlaced T p → EachCombination (Holds T b) b p → IsGuard T b
guard_from T b p table stays early placed each =
    traps_are_guards T b table (trap_from T b p table stays early placed each)
