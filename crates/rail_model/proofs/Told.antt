-- What a table that is due is told, as a test computes it: the same as the definition says.
use Rattle.std.proofs.Common.{◌≡◌, ℕ, ◌+◌, ◌<◌, ◌≤◌, pos, ◌≤ℤ◌, List, length, Option, Some, None, refl, sym, ap, subst, arith}
use Rattle.std.specs.Prelude.{find, nat_abs, nat_eq, unwrap_or, Decides}
use Rattle.std.specs.List.{list_any}
use Rattle.std.specs.Option.{option_eq}
use Rattle.std.proofs.lemmas.Bool.Decides.{Decides-eqb, Decides-not, Decides-or, Decides-ltb}
use Rattle.rail_model.specs.declared.types.Tried.TheVariants.{Exchanged, Differs, Over}
use Rattle.rail_model.specs.Table.{Table, trains, last, point, place, count}
use Rattle.rail_model.specs.Move.{IsFirst}
use Rattle.rail_model.specs.Exchange.{IsOther, Agrees, Admits}
use Rattle.rail_model.specs.Checks.{below, is_other, is_over, admitted, AdmittedAgrees}
use Rattle.rail_model.proofs.Admission.{admitted_once}
use Rattle.rail_model.proofs.Agree.{Decides-any_below}
use Rattle.rail_model.proofs.Asked.{Decides-over, counted}
use Rattle.rail_model.proofs.FirstPassing.{first_found, none_found}

Decides-same : (a b : Option ℕ) → Decides (option_eq nat_eq a b) (a ≡ b)
Decides-same None None = (λ e. refl, λ e. refl)
Decides-same None (Some y) = (λ e. cc, λ e. cc)
Decides-same (Some x) None = (λ e. cc, λ e. cc)
Decides-same (Some x) (Some y) = (λ e. ap (λ (n : ℕ). Some n) ((Decides-eqb x y).0 e), λ e. (Decides-eqb x y).1 (let same : x ≡ y = cc in same))

pub Decides-other : (T new : Table) (i k : ℕ) → Decides (is_other T new i k) (IsOther T new i k)
Decides-other T new i k = Decides-or _ _ (Decides-ltb (last new i) k) (Decides-not _ (Decides-same (point new i k) (point T i k)))

-- some passed place of train i differs
abbrev HasOther : Table → Table → List ℕ → ℕ → Type 0
HasOther T new p i = (k : ℕ) × (k < place p i + 1) × IsOther T new i k

Decides-passed : (T new : Table) (p : List ℕ) (i : ℕ) → Decides (list_any (is_other T new i) (below (place p i + 1))) (HasOther T new p i)
Decides-passed T new p i = Decides-any_below (is_other T new i) (IsOther T new i) (Decides-other T new i) (place p i + 1)

-- the first place of a train that has one
first_place : (T new : Table) (p : List ℕ) (i : ℕ) → IsFirst (λ j. (j < trains T) × HasOther T new p j) i
    → (o : Option ℕ) → find (is_other T new i) (below (place p i + 1)) ≡ o → Admits T new p (Differs i (unwrap_or o 0))
first_place T new p i first None none =
    absurd (none_found (is_other T new i) _ (Decides-other T new i) (place p i + 1) none first.0.1.0 (first.0.1.1, first.0.1.2))
first_place T new p i first (Some k) found =
    let at = first_found (is_other T new i) _ (Decides-other T new i) (place p i + 1) k found in
    let there : k < place p i + 1 = at.0.0 in (
      ((k, (first.0.0, omega arith, at.0.1)), λ j before w. first.1 j before (w.1.0, (w.0, later j w.0 w.1.1, w.1.2))),
      ((first.0.0, omega arith, at.0.1), λ l before w. at.1 l before (later i l w.1, w.2)),
    )
  where
    later : (j l : ℕ) → l ≤ place p j → l < place p j + 1
    later j l le = omega arith

-- where all passed places are the same
agreed : (T new : Table) (p : List ℕ) → ((s : ℕ) → pos 0 ≤ℤ count new s p) → Agrees T new p
    → (o : Option ℕ) → find (is_over new p) (below (length new.sections)) ≡ o
    → Admits T new p (elim o [ Some s ↦ Over s (nat_abs (count new s p)) | None ↦ Exchanged ])
agreed T new p low agrees None none = (agrees, none_found (is_over new p) _ (Decides-over new p) (length new.sections) none)
agreed T new p low agrees (Some s) found =
    (agrees, first_found (is_over new p) _ (Decides-over new p) (length new.sections) s found, counted (count new s p) (low s))

by_train : (T new : Table) (p : List ℕ) → ((s : ℕ) → pos 0 ≤ℤ count new s p)
    → (o : Option ℕ) → find (λ i. list_any (is_other T new i) (below (place p i + 1))) (below (trains T)) ≡ o
    → Admits T new p (elim o [
      | Some i ↦ Differs i (unwrap_or (find (is_other T new i) (below (place p i + 1))) 0)
      | None ↦ elim (find (is_over new p) (below (length new.sections))) [ Some s ↦ Over s (nat_abs (count new s p)) | None ↦ Exchanged ]
    ])
by_train T new p low None none =
    agreed T new p low
    (λ i k d. none_found _ (HasOther T new p) (Decides-passed T new p) (trains T) none i (d.0, (k, later i k d.1, d.2)))
    (find (is_over new p) (below (length new.sections))) refl
  where
    later : (i k : ℕ) → k ≤ place p i → k < place p i + 1
    later i k le = omega arith
by_train T new p low (Some i) found =
    first_place T new p i (first_found _ (HasOther T new p) (Decides-passed T new p) (trains T) i found) (find (is_other T new i) (below (place p i + 1))) refl

-- a table that is due is told what the test computes
pub told : (T new : Table) (p : List ℕ) → ((s : ℕ) → pos 0 ≤ℤ count new s p) → Admits T new p (admitted T new p)
told T new p low = by_train T new p low (find (λ i. list_any (is_other T new i) (below (place p i + 1))) (below (trains T))) refl

-- so the test says what the definition says
pub admitted-agrees : AdmittedAgrees
admitted-agrees T new p a low =
    (λ answer. admitted_once T new p a (admitted T new p) answer (told T new p low), λ is. subst (Admits T new p) (sym is) (told T new p low))
