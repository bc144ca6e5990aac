use Rattle.std.proofs.Common.{◌≡◌, ℕ, ◌-◌, true, arith, rules, ap, inl, inr, subst, ◌<◌, List, sym}
use Rattle.std.proofs.lemmas.Bool.Decides.{leb_tells}
use Rattle.ring_sections.specs.declared.train_set.TrainSet.{TrainSet}
use Rattle.ring_sections.specs.Leading.{HasTrain, IsCovered, Avoids, IsKnown}
use Rattle.ring_sections.proofs.TrainSets.{with_train, has_below, has_apart, count_none, count_fewer, avoid_or_meet}
use Rattle.std.specs.Prelude.{slice_index_or}
use Rattle.std.specs.Int.Bits.{bit_and}
use Rattle.std.proofs.lemmas.List.{get_or_default}
use Rattle.ring_sections.specs.declared.leading.Reach.{Reach}
use Rattle.ring_sections.specs.Ring.{Pair, pair_at}
use Rattle.ring_sections.proofs.leading.+is_covered.Goals as goal
use Rattle.ring_sections.proofs.leading.+is_covered.Goals.{else-has-via-then-has+then-not-has+else-not-is_covered, else-has-via-then-has+else-not-has, else-has-via-else-has}

-- Where no more trains may be beside those that are hit, what none of them hits avoids all.
covered_now : (known : List Reach) (from : Reach) (used hit : TrainSet) (n : ℕ) → IsKnown known from used → bit_and used.bits hit.bits ≡ 0 → n ≡ 0 → IsCovered known from hit n
covered_now known from used hit n is apart none later few avoid = (
  is.0,
  is.1,
  is.2,
  subst (λ s. Avoids s later) (sym is.3) (λ k d l has.
      has_apart used hit (slice_index_or later k d).0 apart has
      (subst (λ (v : Pair). HasTrain hit v.0) (get_or_default later k (0, 0) d l) (count_none hit later k (omega arith) l))),
)

-- Some pairs avoid what is known, or meet a train of it that isn't hit yet; then it may be hit too.
covered_each : (known : List Reach) (from : Reach) (used hit : TrainSet) (n : ℕ) → IsKnown known from used → bit_and used.bits hit.bits ≡ 0 → 0 < n →
    ((i : ℕ) → HasTrain used i → (HasTrain from.used i → ⊥) → IsCovered known from (with_train hit i) (n - 1)) → IsCovered known from hit n
covered_each known from used hit n is apart more each later few avoid = elim (avoid_or_meet used later) [
  | inl all ↦ (is.0, is.1, is.2, subst (λ s. Avoids s later) (sym is.3) all)
  | inr met ↦
      let k : ℕ = met.0 in
      let i : ℕ = (pair_at later k).0 in
      let fewer = count_fewer hit later k met.1 (λ h. has_apart used hit i apart met.2 h) in
      each i met.2 (avoid k (0, 0) met.1) later (omega arith) avoid
]

as_set : (s : TrainSet) (b : ℕ) → s.bits ≡ b → s ≡ record { bits = b }
as_set s b e = ap (λ n. let r : TrainSet = record { bits = n } in r) e

pub returns-then-left-eq0 : goal.returns-then-left-eq0
returns-then-left-eq0 t c = λ _. covered_now c.args.known.now c.args.from c.in-Some.used c.args.hit c.args.left c.in-Some.ensures.known c.in-Some.ensures.unhit c.if-left-eq0.true

pub loop-train-preserved : goal.loop-train-preserved
loop-train-preserved t c = λ i l has free. elim (leb_tells c.loop-train.train i) [
  | inr before ↦ c.loop-train.invariant i before.1 has free
  | inl now ↦
      let same : c.loop-train.train ≡ i = omega (arith, now.1) in
      subst (λ j. HasTrain c.in-Some.used j → (HasTrain c.args.from.used j → ⊥) → IsCovered c.args.known.now c.args.from (with_train c.args.hit j) (c.args.left - 1)) same
      (λ h f. elim c.else-has.branch [
        | else-has-via-then-has+then-not-has+else-not-is_covered w ↦
            let yes : w.is_covered.result ≡ true = search rules in
            subst (λ s. IsCovered c.args.known.now c.args.from s (c.args.left - 1)) (as_set w.with.result _ w.with.ensures) (w.is_covered.ensures yes)
        | else-has-via-then-has+else-not-has w ↦ absurd (f (w.has-then-has.ensures.0 (let yes : w.has-then-has.result ≡ true = search rules in yes)))
        | else-has-via-else-has w ↦ let yes = c.has.ensures.1 h in let no = w.if-has.false in cc
      ]) has free
]

pub returns : goal.returns
returns t c = λ _. covered_each c.args.known.now c.args.from c.in-Some.used c.args.hit c.args.left c.in-Some.ensures.known c.in-Some.ensures.unhit (omega arith)
    (λ i has free. c.loop-train.invariant i (let l = has_below c.in-Some.used 32 i c.in-Some.ensures.trains has in omega arith) has free)
