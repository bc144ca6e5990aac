-- Tests that compute whether a state is legal, whether a train has a move, whether a list of moves is a run and whether a state is stuck.
use Rattle.std.proofs.Common.{◌≡◌, ◌≢◌, ℕ, ◌<◌, ◌≤◌, ◌==◌, Bool, true, not, ◌&&◌, pos, ◌≤ℤ◌, ◌<ℤ◌, List, [], ◌∷◌, length, refl, subst, arith, inl, inr}
use Rattle.std.specs.Prelude.{nat_le, nat_lt, Decides}
use Rattle.std.specs.List.{list_any, list_all}
use Rattle.std.proofs.lemmas.Bool.{and_parts}
use Rattle.std.proofs.lemmas.Int.{ints}
use Rattle.std.proofs.lemmas.Bool.Decides.{Decides-eqb, Decides-ltb, Decides-not, Decides-and, Decides-like}
use Rattle.rail_model.specs.Table.{Table, trains, last, point, limit, place, count}
use Rattle.rail_model.specs.State.{Legal, StandsAt}
use Rattle.rail_model.specs.Move.{Move, Run, NoMove, Stuck, advance}
use Rattle.rail_model.specs.Checks.{below, same_point, is_over, is_held_by, is_arrived}
use Rattle.rail_model.proofs.Agree.{Decides-any_below, Decides-all_below, Decides-any_get, Decides-leb, Decides-same_point}
use Rattle.rail_model.proofs.Asked.{Decides-over, Decides-held}
use Rattle.rail_model.proofs.Decide.{cases_≤ℤ}
use Rattle.rail_model.proofs.StateTests.{Decides-arrived}

-- whether two trains stand at one point
abbrev meet : Table → List ℕ → ℕ → ℕ → Bool
meet T p i j = not (i == j) && same_point (point T i (place p i)) (point T j (place p j))

abbrev Meet : Table → List ℕ → ℕ → ℕ → Type 0
Meet T p i j = (i ≢ j) × ((q : ℕ) × StandsAt T p i q × StandsAt T p j q)

Decides-meet : (T : Table) (p : List ℕ) (i j : ℕ) → Decides (meet T p i j) (Meet T p i j)
Decides-meet T p i j = Decides-and _ _ (Decides-not _ (Decides-eqb i j)) (Decides-same_point _ _)

abbrev pub is_legal : Table → List ℕ → Bool
is_legal T p =
    (length p == trains T)
    && list_all (λ i. nat_le (place p i) (last T i)) (below (trains T))
    && not (list_any (λ i. list_any (meet T p i) (below (trains T))) (below (trains T)))
    && not (list_any (is_over T p) (below (length T.sections)))

within : (T : Table) (p : List ℕ) (s : ℕ) → (pos (limit T s) <ℤ count T s p → ⊥) → count T s p ≤ℤ pos (limit T s)
within T p s fits = elim (cases_≤ℤ (count T s p) (pos (limit T s))) [ inl le ↦ le | inr more ↦ absurd (fits more) ]

above : (T : Table) (p : List ℕ) (s : ℕ) → count T s p ≤ℤ pos (limit T s) → pos (limit T s) <ℤ count T s p → ⊥
above T p s le more = omega (arith, ints)

pub Decides-legal : (T : Table) (p : List ℕ) → Decides (is_legal T p) (Legal T p)
Decides-legal T p =
    Decides-like (is_legal T p)
    (λ h. record {
      one_each = h.0.0.0;
      in_range = h.0.0.1;
      apart = λ i j q i_in j_in differ at_i at_j. h.0.1 (i, i_in, (j, j_in, (differ, (q, at_i, at_j))));
      within = λ s s_in. within T p s (λ more. h.1 (s, s_in, more));
    })
    (λ h. (
      ((h.one_each, h.in_range), λ w. h.apart w.0 w.2.0 w.2.2.1.0 w.1 w.2.1 w.2.2.0 w.2.2.1.1 w.2.2.1.2),
      λ w. above T p w.0 (h.within w.0 w.1) w.2,
    ))
    (Decides-and _ _
    (Decides-and _ _
    (Decides-and _ _ (Decides-eqb _ _) (Decides-all_below _ (λ i. place p i ≤ last T i) (λ i. Decides-leb _ _) (trains T)))
    (Decides-not _ (Decides-any_below _ (λ i. (j : ℕ) × (j < trains T) × Meet T p i j)
    (λ i. Decides-any_below _ (Meet T p i) (Decides-meet T p i) (trains T)) (trains T))))
    (Decides-not _ (Decides-any_below _ (λ s. pos (limit T s) <ℤ count T s p) (Decides-over T p) (length T.sections))))

abbrev pub is_move : Table → List ℕ → ℕ → Bool
is_move T p i = is_legal T p && nat_lt i (trains T) && is_legal T (advance p i) && not (list_any (is_held_by p i) T.connections)

pub Decides-move : (T : Table) (p : List ℕ) (i : ℕ) → Decides (is_move T p i) (Move T p i (advance p i))
Decides-move T p i =
    Decides-like (is_move T p i)
    (λ h. record { before = h.0.0.0; train = h.0.0.1; step = refl; after = h.0.1; free = λ c w. h.1 (c, w.0, w.1, ((w.2, w.3), w.4)) })
    (λ m. (((m.before, m.train), m.after), λ w. m.free w.0 (w.1, w.2, w.3.0.0, w.3.0.1, w.3.1)))
    (Decides-and _ _
    (Decides-and _ _ (Decides-and _ _ (Decides-legal T p) (Decides-ltb i (trains T))) (Decides-legal T (advance p i)))
    (Decides-not _ (Decides-any_get _ (λ k. ((k.train ≡ i) × (k.place ≡ place p i)) × (place p k.other < k.reached)) (Decides-held p i) T.connections)))

-- the state after these trains' moves
abbrev pub behind : List ℕ → List ℕ → List ℕ
behind p [] = p
behind p (i ∷ later) = behind (advance p i) later

-- whether these trains can move in order
abbrev pub is_run : Table → List ℕ → List ℕ → Bool
is_run T p [] = true
is_run T p (i ∷ later) = is_move T p i && is_run T (advance p i) later

pub run : (T : Table) (p l : List ℕ) → is_run T p l ≡ true → Run T p l (behind p l)
run T p [] h = refl
run T p (i ∷ later) h = let both = and_parts _ _ h in (advance p i, (Decides-move T p i).0 both.0, run T (advance p i) later both.1)

-- whether no train has a move
abbrev pub is_still : Table → List ℕ → Bool
is_still T p = not (list_any (is_move T p) (below (trains T)))

pub Decides-still : (T : Table) (p : List ℕ) → Decides (is_still T p) (NoMove T p)
Decides-still T p =
    Decides-like (is_still T p)
    (λ h i q m. h (i, m.train, subst (Move T p i) m.step m))
    (λ h w. h w.0 (advance p w.0) w.2)
    (Decides-not _ (Decides-any_below _ (λ i. Move T p i (advance p i)) (Decides-move T p) (trains T)))

pub Decides-stuck : (T : Table) (p : List ℕ) → Decides (is_legal T p && not (is_arrived T p) && is_still T p) (Stuck T p)
Decides-stuck T p =
    Decides-like _
    (λ h. record { legal = h.0.0; unfinished = h.0.1; no_move = h.1 })
    (λ h. ((h.legal, h.unfinished), h.no_move))
    (Decides-and _ _ (Decides-and _ _ (Decides-legal T p) (Decides-not _ (Decides-arrived T p))) (Decides-still T p))
