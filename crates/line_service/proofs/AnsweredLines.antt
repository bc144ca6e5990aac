-- How answers to lines follow one another.
use Rattle.std.proofs.Common.{ℕ, List, [], ◌∷◌, ◌++◌, refl, sym, ap, subst, ◌∙◌, append_assoc, append-nil, inl, inr}
use Rattle.line_service.specs.declared.server.Course.{Course}
use Rattle.line_service.specs.declared.server.Course.TheVariants.{GoesOn, Ends}
use Rattle.line_service.specs.Answered.{AnswerRelation, Answered}

-- one line
pub answered_one : {S : Type 0} (Answers : AnswerRelation S) (from : S) (line : List ℕ) (to : S) (text : List ℕ)
    (course : Course)
    → Answers from line to text course → Answered Answers from (line ∷ []) to text course
answered_one Answers from line to text GoesOn here = inr (to, text, [], here, (refl, refl, refl), sym (append-nil text))
answered_one Answers from line to text Ends here = inl (here, refl)

-- lines after lines
pub answered_more : {S : Type 0} (Answers : AnswerRelation S) (first later : List (List ℕ)) (from mid to : S)
    (text more : List ℕ) (course : Course)
    → Answered Answers from first mid text GoesOn → Answered Answers mid later to more course
    → Answered Answers from (first ++ later) to (text ++ more) course
answered_more Answers [] later from mid to text more course (same, none, goes) rest =
    subst (λ t. Answered Answers from later to (t ++ more) course) (sym none)
    (subst (λ s. Answered Answers s later to more course) same rest)
answered_more Answers (line ∷ lines) later from mid to text more course (inl (here, ends)) rest = absurd (cc ends)
answered_more Answers (line ∷ lines) later from mid to text more course
    (inr (next, one, others, here, behind, is)) rest =
    inr (
      next,
      one,
      others ++ more,
      here,
      answered_more Answers lines later next mid to others more course behind rest,
      ap (λ t. t ++ more) is
          ∙ append_assoc one others more,
    )

-- lines after the one that ends the session have no answer
pub answered_ended : {S : Type 0} (Answers : AnswerRelation S) (first later : List (List ℕ)) (from to : S)
    (text : List ℕ)
    → Answered Answers from first to text Ends → Answered Answers from (first ++ later) to text Ends
answered_ended Answers [] later from to text (same, none, goes) = absurd (cc goes)
answered_ended Answers (line ∷ lines) later from to text (inl both) = inl both
answered_ended Answers (line ∷ lines) later from to text (inr (next, one, others, here, behind, is)) =
    inr (next, one, others, here, answered_ended Answers lines later next to others behind, is)
