-- The root has the entries of each pass that left, where no two have one number.
use Rattle.std.proofs.Common.{◌≡◌, ◌≢◌, ℕ, List, [], ◌∷◌, refl, map, true, ap, ◌∙◌, subst, eq-eqb, ne_eqb}
use Rattle.std.specs.Prelude.{if◌then◌else◌}
use Rattle.std.specs.List.{AllByRecursion}
use Rattle.zone_locks.specs.Zones.{has}
use Rattle.zone_yard.specs.Passes.{Pass, Receipt, done_of}
use Rattle.shared_run.specs.Boarding.{onto, AreOnce, numbers}
use Rattle.shared_run.specs.Leaving.{entries_with}

-- the numbers of those that are done
abbrev who : List (ℕ × List Receipt) → List ℕ
who done = map (λ (d : ℕ × List Receipt). d.0) done

once_rest : (xs later : List ℕ) → AreOnce (onto xs later) → AreOnce later
once_rest [] later once = once
once_rest (x ∷ xs) later once = (once_rest xs (x ∷ later) once).1

has_first : (p : ℕ) (later : List ℕ) → has p (p ∷ later) ≡ true
has_first p later = ap (λ b. if b then true else has p later) (eq-eqb p p refl)

has_later : (p q : ℕ) (later : List ℕ) → p ≢ q → has p later ≡ true → has p (q ∷ later) ≡ true
has_later p q later ne among = ap (λ b. if b then true else has p later) (ne_eqb p q ne) ∙ among

done_first : (p : ℕ) (mine : List Receipt) (done : List (ℕ × List Receipt)) → done_of p ((p, mine) ∷ done) ≡ mine
done_first p mine done = ap (λ b. if b then mine else done_of p done) (eq-eqb p p refl)

done_later : (p q : ℕ) (mine : List Receipt) (done : List (ℕ × List Receipt)) → p ≢ q → done_of p ((q, mine) ∷ done) ≡ done_of p done
done_later p q mine done ne = ap (λ b. if b then mine else done_of p done) (ne_eqb p q ne)

-- who is done stays so as others leave
stays : (passes : List Pass) (done : List (ℕ × List Receipt)) (p : ℕ) (mine : List Receipt) → AreOnce (onto (numbers passes) (who done))
    → has p (who done) ≡ true → done_of p done ≡ mine → done_of p (onto (map entries_with passes) done) ≡ mine
stays [] done p mine once among is = is
stays (q ∷ passes) done p mine once among is =
    let ne : p ≢ q.number = λ same. (once_rest (numbers passes) (q.number ∷ who done) once).0 (subst (λ n. has n (who done) ≡ true) same among) in
    stays passes (entries_with q ∷ done) p mine once (has_later p q.number (who done) ne among) (done_later p q.number q.mine done ne ∙ is)

pub each_done : (passes : List Pass) (done : List (ℕ × List Receipt)) → AreOnce (onto (numbers passes) (who done))
    → AllByRecursion (λ (p : Pass). done_of p.number (onto (map entries_with passes) done) ≡ p.mine) passes
each_done [] done once = tt
each_done (p ∷ passes) done once = (
  stays passes (entries_with p ∷ done) p.number p.mine once (has_first p.number (who done)) (done_first p.number p.mine done),
  each_done passes (entries_with p ∷ done) once,
)
