-- A member, as the definition has it.
use Rattle.std.proofs.Common.{◌≡◌, ◌⊎◌, ◌≤◌, ℕ, true, arith, inl, inr, Option, Some, None, Result, Ok, Err, option_map, sym, ap, ◌∙◌, refl}
use Rattle.std.proofs.lemmas.Bool.Decides.{nat_tests}
use Rattle.std.specs.Prelude.{IfOk, IfErr, ok_or, MatchOption, IsSomeAnd, nat_le}
use Rattle.serde_json.specs.Data.{Data}
use Rattle.serde_json.specs.Find.{get}
use Rattle.rail_model.specs.Turns.{AnswersAs}
use Rattle.document_shapes.specs.Shape.{Shape}
use Rattle.document_shapes.specs.Readings.{ReadsAt, MisfitsAt, ReadsGiven, MisfitsGiven}
use Rattle.document_shapes.specs.Members.{name_of, need, may, since, shaped}
use Rattle.document_shapes.specs.declared.member.Member.{Member}
use Rattle.document_shapes.specs.declared.refused.ShapeRefused.{ShapeRefused}
use Rattle.document_shapes.specs.declared.refused.ShapeRefused.TheVariants as refused
use Rattle.document_shapes.proofs.Agreement.{Agrees, agrees-at}

-- a document of the version has the member
pub since-newer : {A : Type 0} (least version : ℕ) (r : Result (Option A) ShapeRefused) → least ≤ version → since least version r ≡ r
since-newer least version r h = let newer : nat_le least version ≡ true = grind (arith, nat_tests) in rw newer refl

module _ {X A : Type 0} {R : Data → X → Type 0} {M : Data → Type 0} {shape : Shape A} {see : X → A} (agrees : Agrees R M shape see) where
  -- a member that has to be there
  pub need-answers : (table : Option ℕ) (m : Member) (d : Data) (r : Result X ShapeRefused)
      → IfOk r (λ x. ReadsAt R (name_of m) d x)
      → IfErr r (λ e. (e ≡ refused.Memory) ⊎ ((e ≡ refused.Shape table m) × MisfitsAt M (name_of m) d))
      → AnswersAs refused.Memory see r (need table m shape d)
  need-answers table m d (Ok x) h k = ap (λ o. ok_or o (refused.Shape table m)) ((agrees-at agrees (name_of m)).reads d x h)
  need-answers table m d (Err e) h k = elim k [
    | inl memory ↦ inl memory
    | inr misfit ↦ inr (ap (λ o. ok_or o (refused.Shape table m)) ((agrees-at agrees (name_of m)).misfits d misfit.1) ∙ ap Err (sym misfit.0))
  ]

  given : (e : ShapeRefused) (x : Option X) (o : Option Data) → MatchOption o (x ≡ None) (λ d. IsSomeAnd x (λ y. R d y))
      → shaped e shape o ≡ Ok (option_map see x)
  given e x None h = ap (λ y. Ok (option_map see y)) (sym h)
  given e None (Some d) h = absurd h
  given e (Some x) (Some d) h = ap (λ o. ok_or (option_map Some o) e) (agrees.reads d x h)

  not_given : (e : ShapeRefused) (o : Option Data) → IsSomeAnd o M → shaped e shape o ≡ Err e
  not_given e None h = absurd h
  not_given e (Some d) h = ap (λ o. ok_or (option_map Some o) e) (agrees.misfits d h)

  -- a member that may be missing
  pub may-answers : (t : ℕ) (m : Member) (d : Data) (r : Result (Option X) ShapeRefused)
      → IfOk r (λ o. ReadsGiven R (name_of m) d o)
      → IfErr r (λ e. (e ≡ refused.Memory) ⊎ ((e ≡ refused.Shape (Some t) m) × MisfitsGiven M (name_of m) d))
      → AnswersAs refused.Memory (option_map see) r (may t m shape d)
  may-answers t m d (Ok x) h k = given (refused.Shape (Some t) m) x (get (name_of m) d) h
  may-answers t m d (Err e) h k = elim k [
    | inl memory ↦ inl memory
    | inr misfit ↦ inr (not_given (refused.Shape (Some t) m) (get (name_of m) d) misfit.1 ∙ ap Err (sym misfit.0))
  ]
