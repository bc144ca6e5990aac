-- A history is as long as the passes' own entries together, so a bound on each bounds it.
use Rattle.zone_yard.proofs.Prelude.{◌≡◌, ◌≢◌, ℕ, zero, suc, ◌+◌, ◌*◌, ◌<◌, ◌≤◌, ◌==◌, List, [], ◌∷◌, length, if◌then◌else◌, refl, ap, subst, inl, inr, arith, eq-eqb, ne_eqb, Driver, Control, Entry, trains, Offer, Yard, offer, IsHistory, Setup, core, most_passes, entries_from, entries_of, KeepsRule}
use Rattle.std.proofs.Common.{suc-mul}
use Rattle.std.proofs.lemmas.Bool.{cases_lt}
use Rattle.std.proofs.lemmas.List.{get_or_past}
use mathlib.Core.Logic.{dite}
use native.Mathlib.Decide.{ℕ_discrete}
use Rattle.rail_model.specs.declared.types.Reply.{Reply}
use Rattle.rail_model.specs.declared.types.Reply.TheVariants.{NotWhole}
use Rattle.rail_model.specs.Yard.{after_entry, IsAnswer}
use Rattle.zone_machine.specs.Sound.{IsSetup as IsCoreSetup}
use Rattle.zone_yard.proofs.Keeps.{St}

-- Each entry is of a pass that there can be.
abbrev pub AreLow : List Entry → Type 0
AreLow [] = Unit {0}
AreLow (e ∷ later) = (e.who < 33) × AreLow later

low_who : (tables : List Offer) (y : Yard) (who : ℕ) (r : Reply) → ((t : ℕ) → trains (offer tables t).table ≤ 32) → IsAnswer tables y (record { who = who; reply = r }) → who < 33
low_who tables y who (Driver ask) few a = let f = few y.table in let lt = a.0 in omega arith
low_who tables y who (NotWhole step ask) few a = let f = few y.table in let lt = a.0 in omega arith
low_who tables y who (Control tried) few a = let e = a.0 in omega arith

pub low_history : (tables : List Offer) (y : Yard) (H : List Entry) → ((t : ℕ) → trains (offer tables t).table ≤ 32) → IsHistory tables y H → AreLow H
low_history tables y [] few legal = tt
low_history tables y (e ∷ later) few legal = (low_who tables y e.who e.reply few legal.0, low_history tables (after_entry y e) later few legal.1)

-- how many entries the passes below n have together
pub total : ℕ → ℕ → List Entry → ℕ
total zero k es = 0
total (suc n) k es = total n k es + length (entries_from k n es)

-- whether the entry is of a pass below n
below : ℕ → ℕ → ℕ
below zero who = 0
below (suc n) who = below n who + (if n == who then 1 else 0)

below_none : (n who : ℕ) → n ≤ who → below n who ≡ 0
unfolding below
below_none zero who le = refl
below_none (suc n) who le = let ne : n ≢ who = (λ e. omega arith) in let r = below_none n who (omega arith) in rw (ne_eqb n who ne) (omega arith)

below_one : (n who : ℕ) → who < n → below n who ≡ 1
unfolding below
below_one zero who lt = absurd (omega arith)
below_one (suc n) who lt = dite (ℕ_discrete n who)
    (λ e. let r = below_none n who (omega arith) in rw (eq-eqb n who e) (omega arith))
    (λ ne. let r = below_one n who (omega arith) in rw (ne_eqb n who ne) (omega arith))

total_nil : (n k : ℕ) → total n k [] ≡ 0
unfolding total
total_nil zero k = refl
total_nil (suc n) k = let r = total_nil n k in omega arith

total_cons : (n k : ℕ) (e : Entry) (es : List Entry) → total n k (e ∷ es) ≡ total n (suc k) es + below n e.who
unfolding total below
total_cons zero k e es = refl
total_cons (suc n) k e es = let r = total_cons n k e es in dite (ℕ_discrete n e.who)
    (λ y. rw (eq-eqb n e.who y) (omega arith))
    (λ ne. rw (ne_eqb n e.who ne) (omega arith))

total_is : (k : ℕ) (es : List Entry) → AreLow es → total 33 k es ≡ length es
total_is k [] h = total_nil 33 k
total_is k (e ∷ es) h =
    let r = total_is (suc k) es h.1 in
    let c = total_cons 33 k e es in
    let o = below_one 33 e.who h.0 in omega arith

total_most : (n most : ℕ) (es : List Entry) → ((p : ℕ) → length (entries_of p es) ≤ most) → total n 0 es ≤ n * most
unfolding total
total_most zero most es h = omega arith
total_most (suc n) most es h =
    let r = total_most n most es h in
    let one = h n in omega (arith, suc-mul n most)

-- one of them has room for some more
total_less : (n most p more : ℕ) (es : List Entry) → p < n → ((q : ℕ) → length (entries_of q es) ≤ most) → length (entries_of p es) + more ≤ most → total n 0 es + more ≤ n * most
unfolding total
total_less zero most p more es lt h room = absurd (omega arith)
total_less (suc n) most p more es lt h room = dite (ℕ_discrete p n)
    (λ e. let r = total_most n most es h in let one : length (entries_of n es) + more ≤ most = subst (λ q. length (entries_of q es) + more ≤ most) e room in omega (arith, suc-mul n most))
    (λ ne. let r = total_less n most p more es (omega arith) h room in let one = h n in omega (arith, suc-mul n most))

-- each table has at most 32 trains
pub all_few : (S : Setup) → IsCoreSetup (core S) → (t : ℕ) → trains (offer S.tables t).table ≤ 32
all_few S formed t = elim (cases_lt t (length S.tables)) [
  | inl lt ↦ (formed.formed t lt).few_trains
  | inr le ↦ let e = ap (λ (o : Offer). trains o.table) (get_or_past S.tables t (record { table = record { missions = []; sections = []; connections = [] }; after = 0 }) le) in omega arith
]

-- a pass that may make this many entries more finds room for them in the history
pub bounded : (S : Setup) (s : St) (kept : KeepsRule S s) (p more : ℕ) → p < most_passes → length (entries_of p kept.world.history) + more ≤ S.calls
    → length kept.world.history + more ≤ most_passes * S.calls
bounded S s kept p more low room =
    let H = kept.world.history in
    let is = total_is 0 H (low_history S.tables S.opening.yard H (all_few S kept.formed) kept.sound.legal) in
    let most = total_less 33 S.calls p more H low kept.room room in
    omega arith
