-- The steps after a node lead to its halves and back.
use Rattle.std.proofs.Common.{◌≡◌, ℕ, ◌+◌, List, [], ◌∷◌, ◌++◌, true, false, reverse, Some, None, ◌∙◌, ap, subst}
use Rattle.std.specs.Prelude.{slice_set}
use Rattle.std.proofs.lemmas.List.{reverse-append, set-set, set-get_or}
use Rattle.rail_model.specs.Certificate.{Range, range, left_half, right_half}
use Rattle.cert_checker.specs.declared.walk.Step.{Step}
use Rattle.cert_checker.specs.Walked.{next_train, shown, waiting}

pub reverse_step : (steps : List Step) (step : Step) → reverse (steps ++ step ∷ []) ≡ step ∷ reverse steps
reverse_step steps step = reverse-append steps (step ∷ [])

-- a step that gives a train places makes no use of those that it has
overtaken : (B : List Range) (t : ℕ) (r : Range) (step : Step) (later : List Step) → step.train ≡ t →
    waiting (slice_set B t r) (step ∷ later) ≡ waiting B (step ∷ later)
overtaken B t r step later same =
    let set : slice_set (slice_set B t r) step.train step.span ≡ slice_set B step.train step.span =
    subst (λ (k : ℕ). slice_set (slice_set B k r) step.train step.span ≡ slice_set B step.train step.span) same (set-set B step.train r step.span) in
    ap (λ (C : List Range). shown step.visit C (waiting C later)) set

pub next_overtakes : (B : List Range) (t : ℕ) (r : Range) (steps : List Step) → next_train steps ≡ Some t → waiting (slice_set B t r) steps ≡ waiting B steps
next_overtakes B t r [] next = absurd (let e : None ≡ Some t = next in cc)
next_overtakes B t r (step ∷ later) next = overtaken B t r step later (let e : Some step.train ≡ Some t = next in cc)

-- a train is put back
pub put_back : (B : List Range) (t : ℕ) (r : Range) (old : List Step) (back : Step) → back ≡ record { train = t; span = range B t; visit = false } →
    waiting (slice_set B t r) (reverse (old ++ back ∷ [])) ≡ waiting B (reverse old)
put_back B t r old back same =
    ap (waiting (slice_set B t r)) (reverse_step old back)
    ∙ (λ k. waiting (slice_set B t r) (same k ∷ reverse old))
    ∙ ap (λ (C : List Range). waiting C (reverse old)) (set-set B t r (range B t) ∙ set-get_or B t (record { lo = 0; hi = 0 }))

pub planned : (B : List Range) (i m : ℕ) (before old : List Step) (right left : Step)
    → ((r : Range) → waiting (slice_set B i r) (reverse before) ≡ waiting B (reverse old))
    → right ≡ record { train = i; span = record { lo = m + 1; hi = (range B i).hi }; visit = true }
    → left ≡ record { train = i; span = record { lo = (range B i).lo; hi = m }; visit = true }
    → waiting B (reverse ((before ++ right ∷ []) ++ left ∷ []))
    ≡ left_half B i m ∷ right_half B i m ∷ waiting B (reverse old)
planned B i m before old right left back r l =
    ap (waiting B) (reverse_step (before ++ right ∷ []) left ∙ ap (λ (steps : List Step). left ∷ steps) (reverse_step before right))
    ∙ (λ k. waiting B (l k ∷ r k ∷ reverse before))
    ∙ ap (λ (C : List Range). left_half B i m ∷ C ∷ waiting C (reverse before)) (set-set B i (record { lo = (range B i).lo; hi = m }) (record { lo = m + 1; hi = (range B i).hi }))
    ∙ ap (λ (Cs : List (List Range)). left_half B i m ∷ right_half B i m ∷ Cs) (back (record { lo = m + 1; hi = (range B i).hi }))
