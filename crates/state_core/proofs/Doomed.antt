-- Guards forbid just their stays, and no state from which all trains can arrive.
use Rattle.std.proofs.Common.{◌≡◌, ℕ, ◌+◌, ◌-◌, ◌<◌, ◌≤◌, pos, ◌≤ℤ◌, ◌<ℤ◌, List, [], ◌∷◌, ◌++◌, map, length, Some, arith, ap, ◌∙◌, inl, inr, subst, sym}
use Rattle.std.specs.Prelude.{All, slice_get, slice_index_or}
use Rattle.std.specs.Int.Signed.{<ℤ_irrefl, <ℤ-≤ℤ_trans}
use Rattle.std.proofs.lemmas.List.{length-append, length-map}
use Rattle.std.proofs.lemmas.Bool.Decides.{leb_tells}
use Rattle.std.proofs.lemmas.Option.{get_or_from_slice_get, slice_get-get_or, slice_get_within}
use Rattle.std.proofs.lemmas.Int.{by_lt_z}
use Rattle.rail_model.specs.Table.{Table, Section, trains, section, limit, count}
use Rattle.rail_model.specs.State.{Legal, Arrived}
use Rattle.rail_model.specs.Move.{Move, Run, IsOver}
use Rattle.forbidden_states.specs.Forbid.{Stay, forbidding, marked}
use Rattle.forbidden_states.proofs.Over.{over_in, in_over}
use Rattle.state_core.specs.Core.{CanArrive}
use Rattle.state_core.specs.Guard.{guarded, IsGuard, GuardsForbidTheirStays, GuardsLoseNothing, GuardsAddUp}
use Rattle.state_core.proofs.Tables.{section_count, own_section, guard_section}

-- the guard of a number
guard_at : (T : Table) (guards : List (List Stay)) (k : ℕ) (stays : List Stay) → All (IsGuard T) guards →
    slice_get guards k ≡ Some stays → IsGuard T stays
guard_at T guards k stays all at =
    subst (IsGuard T) (get_or_from_slice_get guards k stays stays at) (all k stays (slice_get_within guards k stays at))

-- more than the section permits, from the section alone
abbrev Exceeds : Table → List ℕ → Section → Type 0
Exceeds T p S = pos S.limit <ℤ section_count (trains T) S p

sections_and_guards : (T : Table) (guards : List (List Stay)) →
    length (T.sections ++ map (forbidding T.missions) guards) ≡ length T.sections + length guards
sections_and_guards T guards =
    length-append T.sections (map (forbidding T.missions) guards)
    ∙ ap (λ n. length T.sections + n) (length-map guards (forbidding T.missions))

pub guards_forbid_their_stays : GuardsForbidTheirStays
guards_forbid_their_stays T guards k stays p all at legal =
    let guard : IsGuard T stays = guard_at T guards k stays all at in
    let k_in : k < length guards = slice_get_within guards k stays at in
    let behind : section (guarded T guards) (length T.sections + k) ≡ section (marked T.missions guards) k =
    guard_section T guards k in
    let n = sections_and_guards T guards in (
      (λ over. over_in T.missions guards k stays p at guard.stays (λ i lt. legal.in_range i lt)
          (omega (arith, k_in, length-map guards (forbidding T.missions)), subst (Exceeds T p) behind over.1)),
      (λ inside.
          let over =
          in_over T.missions guards k stays p at guard.some guard.stays (λ i lt. legal.in_range i lt) inside in
          (omega (arith, n, k_in), subst (Exceeds T p) (sym behind) over.1)),
    )

-- one of the guards' sections
record IsGuardSection (T : Table) (guards : List (List Stay)) (s : ℕ) : Type 0 where
  number : ℕ
  stays : List Stay
  get : slice_get guards number ≡ Some stays
  behind : length T.sections + number ≡ s

guard_of : (T : Table) (guards : List (List Stay)) (s : ℕ) → length T.sections ≤ s →
    s < length T.sections + length guards → IsGuardSection T guards s
guard_of T guards s low high = record {
  number = s - length T.sections;
  stays = slice_index_or guards (s - length T.sections) [];
  get = slice_get-get_or guards (s - length T.sections) [] (omega arith);
  behind = omega arith;
}

module _ (T : Table) (guards : List (List Stay)) (all : All (IsGuard T) guards) where
  -- a state from which all can arrive is over none of the guards' sections
  permits : (r : List ℕ) (s : ℕ) → Legal T r → CanArrive T r → IsOver (guarded T guards) r s → ⊥
  permits r s legal run over =
      let n = sections_and_guards T guards in
      elim (leb_tells (length T.sections) s) [
        | inr own ↦ (
            let above : pos (limit T s) <ℤ count T s r = subst (Exceeds T r) (own_section T guards s own.1) over.1 in
            let fits : count T s r ≤ℤ pos (limit T s) = legal.within s own.1 in
            <ℤ_irrefl (<ℤ-≤ℤ_trans above fits))
        | inl later ↦ (
            let g : IsGuardSection T guards s = guard_of T guards s later.1 (omega (arith, n, over.0)) in
            let guard : IsGuard T g.stays = guard_at T guards g.number g.stays all g.get in
            guard.lost r legal
            ((guards_forbid_their_stays T guards g.number g.stays r all g.get legal).0
            (subst (IsOver (guarded T guards) r) (sym g.behind) over)) run)
      ]

  legal_with : (r : List ℕ) → Legal T r → CanArrive T r → Legal (guarded T guards) r
  legal_with r legal run = record {
    one_each = legal.one_each;
    in_range = legal.in_range;
    apart = legal.apart;
    within =
        λ s lt. by_lt_z (pos (limit (guarded T guards) s)) (count (guarded T guards) s r)
        (λ over. absurd (permits r s legal run (lt, over))) (λ fits. fits);
  }

  legal_without : (r : List ℕ) → Legal (guarded T guards) r → Legal T r
  legal_without r legal = record {
    one_each = legal.one_each;
    in_range = legal.in_range;
    apart = legal.apart;
    within = λ s lt.
        let fits = legal.within s (omega (arith, lt, sections_and_guards T guards)) in
        subst (λ (S : Section). section_count (trains T) S r ≤ℤ pos S.limit) (own_section T guards s lt) fits;
  }

  run_with : (l r q : List ℕ) → Legal T r → Run T r l q → Arrived T q → Run (guarded T guards) r l q
  run_with [] r q legal run arrived = run
  run_with (i ∷ later) r q legal run arrived =
      let move : Move T r i run.0 = run.1 in (
        run.0,
        record {
          before = legal_with r legal (i ∷ later, q, run, arrived);
          train = move.train;
          step = move.step;
          after = legal_with run.0 move.after (later, q, run.2, arrived);
          free = move.free;
        },
        run_with later run.0 q move.after run.2 arrived,
      )

  run_without : (l r q : List ℕ) → Run (guarded T guards) r l q → Run T r l q
  run_without [] r q run = run
  run_without (i ∷ later) r q run =
      let move : Move (guarded T guards) r i run.0 = run.1 in (
        run.0,
        record {
          before = legal_without r move.before;
          train = move.train;
          step = move.step;
          after = legal_without run.0 move.after;
          free = move.free;
        },
        run_without later run.0 q run.2,
      )

pub guards_lose_nothing : GuardsLoseNothing
guards_lose_nothing T guards p all legal = (
  (λ run. (
    legal_with T guards all p legal run,
    (run.0, run.1, run_with T guards all run.0 p run.1 legal run.2 run.3, run.3),
  )),
  (λ w. let run = w.1 in (run.0, run.1, run_without T guards all run.0 p run.1 run.2, run.3)),
)

pub guards_add_up : GuardsAddUp
guards_add_up T guards stays all guard = record {
  stays = guard.stays;
  some = guard.some;
  lost =
      λ p legal inside run. (let with_guards = (guards_lose_nothing T guards p all legal).0 run in
      guard.lost p with_guards.0 inside with_guards.1);
}
