-- Tables made one by one: one more, all, and one that is refused.
use Rattle.std.proofs.Common.{◌≡◌, ℕ, ◌+◌, List, [], ◌∷◌, ◌++◌, length, Result, Ok, Err, ◌⊎◌, inl, inr, ◌∙◌, ap, sym, subst, append-nil, length-append}
use Rattle.rail_model.specs.Turns.{in_turn}
use Rattle.document_shapes.specs.Each.{each_from}
use Rattle.document_shapes.specs.Raw.{TableMembers}
use Rattle.document_shapes.proofs.TurnLemmas.{TakenTo, taken_more}
use Rattle.document_json.specs.Doc.{DocTable}
use Rattle.document_json.specs.Keeps.{Untimed, timed, with_times}
use Rattle.document_json.proofs.Timed.{timed-push}
use Rattle.document_json.specs.declared.refused.DocRefused.{DocRefused}
use Rattle.document_json.specs.declared.refused.DocRefused.TheVariants.{Memory}

pub table-push : (f : ℕ → TableMembers → Result DocTable DocRefused) (all left : List TableMembers) (m : TableMembers)
    (ts : List Untimed) (xs : List (List (List ℕ))) (t : Untimed) (x : List (List ℕ)) → length ts ≡ length xs → f (length ts) m ≡ Ok (with_times t x)
    → TakenTo f all (timed ts xs) (length ts) (m ∷ left) → TakenTo f all (timed (ts ++ t ∷ []) (xs ++ x ∷ [])) (length (ts ++ t ∷ [])) left
table-push f all left m ts xs t x same made taken =
    let next : length ts + 1 ≡ length (ts ++ t ∷ []) = sym (length-append ts (t ∷ [])) in
    subst (λ n. TakenTo f all (timed (ts ++ t ∷ []) (xs ++ x ∷ [])) n left) next
    (subst (λ ds. TakenTo f all ds (length ts + 1) left) (sym (timed-push ts xs t x same))
    (taken_more f all (timed ts xs) (length ts) m left (with_times t x) made taken))

module _ (f : ℕ → TableMembers → Result DocTable DocRefused) (all : List TableMembers) (done : List DocTable) (n : ℕ) where
  pub all-made : TakenTo f all done n [] → each_from f 0 all ≡ Ok done
  all-made taken = taken.is ∙ ap Ok (append-nil done)

  pub one-refused : (m : TableMembers) (left : List TableMembers) (number : ℕ) (e : DocRefused) → number ≡ n → TakenTo f all done n (m ∷ left)
      → (e ≡ Memory) ⊎ (f number m ≡ Err e) → (e ≡ Memory) ⊎ (each_from f 0 all ≡ Err e)
  one-refused m left number e same taken (inl memory) = inl memory
  one-refused m left number e same taken (inr refused) =
      inr (taken.is ∙ ap (λ r. in_turn (in_turn r (λ y. in_turn (each_from f (n + 1) left) (λ ys. Ok (y ∷ ys)))) (λ xs. Ok (done ++ xs)))
      (ap (λ k. f k m) (sym same) ∙ refused))
