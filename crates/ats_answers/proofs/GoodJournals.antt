-- A document with a journal that is whole, or with its right front, is refused for nothing.
use Rattle.std.proofs.Common.{◌≡◌, ◌≢◌, ◌⊎◌, ℕ, List, refl, subst, inl, inr}
use Rattle.std.specs.Prelude.{Ok, Err}
use Rattle.rail_model.specs.Names.{Names, IsNames}
use Rattle.rail_model.specs.Yard.{opening}
use Rattle.rail_model.specs.Journal.{Journal}
use Rattle.move_journal.specs.declared.faults.BadText.{BadText}
use Rattle.move_journal.specs.declared.faults.BadText.TheVariants as text
use Rattle.move_journal.specs.declared.faults.BadLine.{BadLine}
use Rattle.move_journal.specs.declared.lines.Part.{Part}
use Rattle.move_journal.specs.declared.lines.Part.TheVariants.{Whole, Open}
use Rattle.move_journal.specs.Answers.{HasTextFault, IsTextPart, AnswersPrefix}
use Rattle.move_journal.specs.Replays.{HasBadLine, IsBrokenJournal}
use Rattle.move_journal.proofs.OneAnswer.{text_or_fault, one_journal, one_prefix}
use Rattle.move_journal.proofs.OneBadLine.{right_or_bad}
use Rattle.move_journal.proofs.OneLack.{whole_or_not}
use Rattle.document_json.specs.Doc.{Doc, offers_of, names_of}
use Rattle.ats_answers.specs.Journals.{IsUnreadable, FailsToVerify, FailsToResume}
use Rattle.ats_answers.specs.Suited.{IsWholeText, IsRightFront}

pub readable : (D : Doc) (given : List ℕ) → IsWholeText D given → (cause : BadText) → IsUnreadable D given cause → ⊥
readable D given good cause h = text_or_fault (names_of D) given good.0 cause h.formed.names good.1 h.fault

pub verified : (D : Doc) (given : List ℕ) → IsWholeText D given → (cause : BadLine) → FailsToVerify D given cause → ⊥
verified D given good cause h =
    let same = one_journal (names_of D) given h.journal good.0 h.formed.names h.text good.1 in
    whole_or_not (offers_of D) (opening D.start) good.0 cause good.2 (subst (λ (J : Journal). IsBrokenJournal (offers_of D) (opening D.start) J cause) same h.fault)

-- the part that good bytes are
part_of : (D : Doc) (given : List ℕ) → IsWholeText D given ⊎ IsRightFront D given → (part : Part) × IsTextPart (names_of D) given part
part_of D given (inl good) = (Whole good.0, good.1)
part_of D given (inr good) = (Open good.0, good.1)

-- a fault of the text that isn't a missing end is an answer of a reader of fronts
is_answer : (N : Names) (given : List ℕ) (cause : BadText) → HasTextFault N given cause → cause ≢ text.NoEnd → AnswersPrefix N given (Err cause)
is_answer N given (text.Line k) h other = h
is_answer N given (text.Number k) h other = h
is_answer N given text.After h other = h
is_answer N given text.NoEnd h other = absurd (other refl)
is_answer N given text.Memory h other = tt

not_memory : (N : Names) (given : List ℕ) (cause : BadText) → HasTextFault N given cause → cause ≢ text.Memory
not_memory N given text.Memory h same = h.3
not_memory N given (text.Line k) h same = cc
not_memory N given (text.Number k) h same = cc
not_memory N given text.After h same = cc
not_memory N given text.NoEnd h same = cc

pub begins_readable : (D : Doc) (given : List ℕ) → IsWholeText D given ⊎ IsRightFront D given → (cause : BadText) → IsUnreadable D given cause → cause ≢ text.NoEnd → ⊥
begins_readable D given good cause h other =
    let part = part_of D given good in
    let free : cause ≢ text.Memory = not_memory (names_of D) given cause h.fault in
    let same = one_prefix (names_of D) given (Ok part.0) (Err cause) h.formed.names (λ (e : Ok part.0 ≡ Err text.Memory). cc)
    (λ (e : Err cause ≡ Err text.Memory). let is : cause ≡ text.Memory = cc in free is)
    part.1 (is_answer (names_of D) given cause h.fault other)
    in
    cc

-- two parts that the same bytes are
one_part : (N : Names) (given : List ℕ) (a b : Part) → IsNames N → IsTextPart N given a → IsTextPart N given b → a ≡ b
one_part N given a b names p q =
    let same = one_prefix N given (Ok a) (Ok b) names (λ (e : Ok a ≡ Err text.Memory). cc) (λ (e : Ok b ≡ Err text.Memory). cc) p q in
    let is : a ≡ b = cc in
    is

whole_not_resumed : (D : Doc) (given : List ℕ) → IsWholeText D given → (cause : BadLine) → FailsToResume D given cause → ⊥
whole_not_resumed D given good cause h = elim (h.fault) [
  | inl refused ↦
      let same = one_part (names_of D) given (Whole h.journal) (Whole good.0) h.formed.names refused.0 good.1 in
      let is : h.journal ≡ good.0 = cc in
      whole_or_not (offers_of D) (opening D.start) good.0 cause good.2 (subst (λ (J : Journal). IsBrokenJournal (offers_of D) (opening D.start) J cause) is refused.1)
  | inr refused ↦
      let same = one_part (names_of D) given (Open h.journal) (Whole good.0) h.formed.names refused.0 good.1 in
      cc
]

front_not_resumed : (D : Doc) (given : List ℕ) → IsRightFront D given → (cause : BadLine) → FailsToResume D given cause → ⊥
front_not_resumed D given good cause h = elim (h.fault) [
  | inl refused ↦
      let same = one_part (names_of D) given (Whole h.journal) (Open good.0) h.formed.names refused.0 good.1 in
      cc
  | inr refused ↦
      let same = one_part (names_of D) given (Open h.journal) (Open good.0) h.formed.names refused.0 good.1 in
      let is : h.journal ≡ good.0 = cc in
      right_or_bad (offers_of D) (opening D.start) good.0.lines cause good.2 (subst (λ (J : Journal). HasBadLine (offers_of D) (opening D.start) J.lines cause) is refused.1)
]

pub resumed : (D : Doc) (given : List ℕ) → IsWholeText D given ⊎ IsRightFront D given → (cause : BadLine) → FailsToResume D given cause → ⊥
resumed D given (inl good) cause h = whole_not_resumed D given good cause h
resumed D given (inr good) cause h = front_not_resumed D given good cause h
