-- The answer to an unfinished train of a stuck state, and for whom it then waits.
use Rattle.std.proofs.Common.{◌≡◌, ◌≢◌, ℕ, ◌+◌, ◌<◌, ◌==◌, Bool, true, false, true≢false, not, ◌&&◌, List, map, length, Option, Some, None, refl, ap, ◌∙◌, subst, sym}
use Rattle.std.specs.Prelude.{find, pos, ◌<ℤ◌, int_lt, nat_abs}
use Rattle.std.specs.List.{position_from}
use Rattle.std.proofs.lemmas.Bool.{eq-eqb, ne_eqb, and_parts}
use Rattle.std.proofs.lemmas.Option.{none-some}
use Rattle.rail_model.specs.declared.types.Ask.{Ask}
use Rattle.rail_model.specs.declared.types.Ask.TheVariants.{Yes, Arrived as AtEnd, Occupied, Full, Waits}
use Rattle.rail_model.specs.Table.{Table, Mission, trains, last, point, share, place, count}
use Rattle.rail_model.specs.State.{Legal, StandsAt}
use Rattle.rail_model.specs.Move.{Move, advance}
use Rattle.rail_model.specs.Checks.{below, blocks, is_over, is_held_by, ask}
use Rattle.rail_model.proofs.Agree.{Decides-same_point, Decides-int_lt}
use Rattle.rail_model.proofs.Found.{find-none}
use Rattle.rail_model.proofs.Obstacles.{legal_advance}
use Rattle.forbidden_states.specs.Forbid.{Stay, unmarked, forbidding, marked}
use Rattle.forbidden_states.proofs.Members.{among-below}
use Rattle.section_repair.specs.Core.{waits_for}

-- the answer to a train, from the three things that decide it
abbrev ask_by : Table → List ℕ → ℕ → Bool → Option ℕ → Option ℕ → Ask
ask_by T p i ended blocked over =
    elim ended [
      | true ↦ AtEnd
      | false ↦ elim blocked [
        | Some by ↦ Occupied by
        | None ↦ elim over [
          | Some s ↦ Full s (nat_abs (count T s p))
          | None ↦ elim (position_from (is_held_by p i) 0 T.connections) [ Some c ↦ Waits c | None ↦ Yes ]
        ]
      ]
    ]

-- whom it waits for, from the answer
abbrev pub waits_by : Table → List ℕ → ℕ → ℕ → Ask → Bool
waits_by T p i j a = elim a [
  | Occupied by ↦ j == by
  | Full s n ↦ not (j == i) && int_lt (pos 0) (share T j s (place p j))
  | _ ↦ false
]

pub ask-occupied : (T : Table) (p : List ℕ) (i by : ℕ) → place p i ≢ last T i → find (blocks T p i) (below (trains T)) ≡ Some by → ask T p i ≡ Occupied by
ask-occupied T p i by d e =
    (elim (place p i == last T i) as (λ b. b ≡ false → ask_by T p i b (find (blocks T p i) (below (trains T))) (find (is_over T (advance p i)) (below (length T.sections))) ≡ Occupied by) [
      | true ↦ λ f. absurd (true≢false f)
      | false ↦ λ f. subst (λ o. ask_by T p i false o (find (is_over T (advance p i)) (below (length T.sections))) ≡ Occupied by) (sym e) refl
    ]) (ne_eqb (place p i) (last T i) d)

pub ask-full : (T : Table) (p : List ℕ) (i s : ℕ) → place p i ≢ last T i → find (blocks T p i) (below (trains T)) ≡ None →
    find (is_over T (advance p i)) (below (length T.sections)) ≡ Some s → ask T p i ≡ Full s (nat_abs (count T s p))
ask-full T p i s d e f =
    (elim (place p i == last T i) as (λ b. b ≡ false → ask_by T p i b (find (blocks T p i) (below (trains T))) (find (is_over T (advance p i)) (below (length T.sections))) ≡ Full s (nat_abs (count T s p))) [
      | true ↦ λ g. absurd (true≢false g)
      | false ↦ λ g. subst (λ o. ask_by T p i false o (find (is_over T (advance p i)) (below (length T.sections))) ≡ Full s (nat_abs (count T s p))) (sym e)
          (subst (λ o. ask_by T p i false None o ≡ Full s (nat_abs (count T s p))) (sym f) refl)
    ]) (ne_eqb (place p i) (last T i) d)

pub waits-occupied : (T : Table) (p : List ℕ) (i by : ℕ) → ask T p i ≡ Occupied by → waits_for T p i by ≡ true
waits-occupied T p i by e = subst (λ a. waits_by T p i by a ≡ true) (sym e) (eq-eqb by by refl)

pub waits-full : (T : Table) (p : List ℕ) (i s n j : ℕ) → ask T p i ≡ Full s n → j ≢ i → pos 0 <ℤ share T j s (place p j) → waits_for T p i j ≡ true
waits-full T p i s n j e d h = subst (λ a. waits_by T p i j a ≡ true) (sym e) (rw (ne_eqb j i d) ((Decides-int_lt (pos 0) (share T j s (place p j))).1 h))

-- who blocks is another train at the next point
pub blocks-at : (T : Table) (p : List ℕ) (i j : ℕ) → blocks T p i j ≡ true → (j ≢ i) × ((q : ℕ) × (point T i (place p i + 1) ≡ Some q) × StandsAt T p j q)
blocks-at T p i j h =
    let parts = and_parts (not (j == i)) _ h in (
      (λ e. true≢false (sym parts.0 ∙ ap not (eq-eqb j i e))),
      (Decides-same_point (point T i (place p i + 1)) (point T j (place p j))).0 parts.1,
    )

at-blocks : (T : Table) (p : List ℕ) (i j q : ℕ) → j ≢ i → point T i (place p i + 1) ≡ Some q → StandsAt T p j q → blocks T p i j ≡ true
at-blocks T p i j q d e f = rw (ne_eqb j i d) ((Decides-same_point (point T i (place p i + 1)) (point T j (place p j))).1 (q, e, f))

-- where nobody blocks and no section would be over, there is a move
pub free_move : (M : List Mission) (S : List (List Stay)) (p : List ℕ) (i : ℕ) → Legal (marked M S) p → i < length M → place p i < last (unmarked M) i →
    find (blocks (marked M S) p i) (below (length M)) ≡ None →
    find (is_over (marked M S) (advance p i)) (below (length (map (forbidding M) S))) ≡ None → Move (marked M S) p i (advance p i)
free_move M S p i legal l h e f =
    let T : Table = marked M S in
    record {
      before = legal;
      train = l;
      step = refl;
      free = λ c k. none-some k.0 k.1;
      after = legal_advance T p i legal l h
          (λ j b. true≢false
          (sym (at-blocks T p i j b.2.0 b.1 b.2.1 b.2.2) ∙ find-none (blocks T p i) (below (length M)) j e (among-below (length M) j b.0)))
          (λ s over. true≢false
          (sym ((Decides-int_lt _ _).1 over.1) ∙ find-none (is_over T (advance p i)) (below (length T.sections)) s f (among-below (length T.sections) s over.0)));
    }
