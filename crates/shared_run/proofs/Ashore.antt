-- Who hasn't boarded while the trains of the workers do, one worker's after the other's.
use Rattle.std.proofs.Common.{◌≡◌, ◌⊎◌, ◌+◌, ◌<◌, ◌≤◌, ◌%◌, ℕ, List, ◌∷◌, Ok, true, cond, inl, inr, sym, ap, ◌∙◌, subst, arith, ne_eqb}
use mathlib.Core.Logic.{dite}
use native.Mathlib.Decide.{ℕ_discrete}
use Rattle.rail_model.specs.Yard.{control}
use Rattle.zone_locks.specs.Zones.{has}
use Rattle.zone_yard.specs.Setup.{SharedYard}
use Rattle.zone_yard.specs.Passes.{Pass, Root, HasBoarded}
use Rattle.zone_yard.specs.Boarding.{Boards, fresh_root}
use Rattle.shared_run.specs.Boarding.{AreAshore}

-- A worker's loop has gone over the first n trains: no other one of its trains has boarded, none of a later worker's, and not the control.
pub record Waits (workers group n : ℕ) (root : Root) : Type 0 where
  pub trains : (p : ℕ) → group ≤ p % workers → (p % workers ≡ group → n ≤ p) → HasBoarded root p → ⊥
  pub the_control : HasBoarded root control → ⊥

pub none_aboard : (workers group : ℕ) (yard : SharedYard) (root : Root) → root ≡ fresh_root yard → AreAshore workers group root
none_aboard workers group yard root fresh = subst (AreAshore workers group) (sym fresh) ((λ p at h. cc h), λ h. cc h)

pub begins : (workers group : ℕ) (root : Root) → AreAshore workers group root → Waits workers group 0 root
begins workers group root ashore = record { trains = λ p at later h. ashore.0 p at h; the_control = ashore.1 }

-- a number is the first of a list or comes after it
first_or_later : (p q : ℕ) (ps : List ℕ) → has p (q ∷ ps) ≡ true → (p ≡ q) ⊎ (has p ps ≡ true)
first_or_later p q ps h = dite (ℕ_discrete p q) (λ e. inl e) (λ ne. inr (subst (λ b. cond b true (has p ps) ≡ true) (ne_eqb p q ne) h))

-- the next train is of this worker, and boards
pub waits_more : (workers group n : ℕ) (old new : Root) (pass : Pass) → Waits workers group n old → n % workers ≡ group → n < 32 → Boards old n (Ok pass) new
    → Waits workers group (n + 1) new
waits_more workers group n old new pass waits is low boards = subst (Waits workers group (n + 1)) (sym boards.2) (record {
  trains = λ p at later h. elim (first_or_later p n old.boarded h) [
    | inl same ↦ let late = later (ap (λ i. i % workers) same ∙ is) in omega (arith, late, same)
    | inr before ↦ waits.trains p at (λ e. let late = later e in omega (arith, late)) before
  ];
  the_control = λ h. elim (first_or_later control n old.boarded h) [
    | inl same ↦ omega (arith, same, low)
    | inr before ↦ waits.the_control before
  ];
})

-- the next train is another one's
pub waits_on : (workers group n : ℕ) (root : Root) → Waits workers group n root → Waits workers group (n + 1) root
waits_on workers group n root waits = record {
  trains = λ p at later h. waits.trains p at (λ e. let late = later e in omega (arith, late)) h;
  the_control = waits.the_control;
}

-- the worker's next train hasn't boarded
pub next_waits : (workers group n : ℕ) (root : Root) → Waits workers group n root → n % workers ≡ group → HasBoarded root n → ⊥
next_waits workers group n root waits is h = waits.trains n (omega (arith, is)) (λ e. omega arith) h

-- the worker's trains have all been gone over
pub next_worker : (workers group n : ℕ) (root : Root) → Waits workers group n root → AreAshore workers (group + 1) root
next_worker workers group n root waits =
    ((λ p at h. waits.trains p (omega (arith, at)) (λ e. absurd (omega (arith, at, e))) h), waits.the_control)
