-- What a journal is refused for.
use Rattle.std.proofs.Common.{◌≡◌, ℕ, List, sym, subst}
use Rattle.std.specs.Prelude.{Err}
use Rattle.rail_model.specs.Names.{Names}
use Rattle.rail_model.specs.Yard.{Offer, Yard}
use Rattle.rail_model.specs.Journal.{Journal}
use Rattle.move_journal.specs.declared.faults.BadText.{BadText}
use Rattle.move_journal.specs.declared.faults.BadText.TheVariants as text
use Rattle.move_journal.specs.declared.faults.BadLine.{BadLine}
use Rattle.move_journal.specs.declared.faults.BadLine.TheVariants as line
use Rattle.move_journal.specs.Answers.{ReadsJournal, AnswersPrefix}
use Rattle.move_journal.specs.Replays.{Replays, Verifies}
use Rattle.accepted_documents.specs.declared.refused.BadJournal.{BadJournal}
use Rattle.accepted_documents.specs.Refusing.{IsBadFront, IsBadLine, IsBadPart, IsBadText, bad_line, bad_text}

text_told : (N : Names) (given : List ℕ) (cause : BadText) → ReadsJournal N given (Err cause)
    → IsBadText N given (bad_text cause)
text_told N given text.Memory h = tt
text_told N given cause h = h

part_told : (N : Names) (given : List ℕ) (cause : BadText) → AnswersPrefix N given (Err cause)
    → IsBadPart N given (bad_text cause)
part_told N given text.Memory h = tt
part_told N given text.NoEnd h = absurd h
part_told N given cause h = (h, λ same. cc)

front_told : (tables : List Offer) (y : Yard) (J : Journal) (cause : BadLine) → Replays tables y J (Err cause)
    → IsBadFront tables y J (bad_line cause)
front_told tables y J line.Memory h = tt
front_told tables y J cause h = h

lines_told : (tables : List Offer) (y : Yard) (J : Journal) (cause : BadLine) → Verifies tables y J (Err cause)
    → IsBadLine tables y J (bad_line cause)
lines_told tables y J line.Memory h = tt
lines_told tables y J cause h = h

-- bytes that are no journal's text, by the same names
pub no_text : (N M : Names) (given : List ℕ) (cause : BadText) (e : BadJournal) → M ≡ N
    → ReadsJournal M given (Err cause) → e ≡ bad_text cause → IsBadText N given e
no_text N M given cause e same h is =
    subst (IsBadText N given) (sym is)
    (text_told N given cause (subst (λ (x : Names). ReadsJournal x given (Err cause)) same h))

-- bytes that are no front of one either
pub no_part : (N M : Names) (given : List ℕ) (cause : BadText) (e : BadJournal) → M ≡ N
    → AnswersPrefix M given (Err cause) → e ≡ bad_text cause → IsBadPart N given e
no_part N M given cause e same h is =
    subst (IsBadPart N given) (sym is)
    (part_told N given cause (subst (λ (x : Names). AnswersPrefix x given (Err cause)) same h))

-- lines that aren't right, under the same tables and from the same state
pub no_front : (tables given : List Offer) (y z : Yard) (J : Journal) (cause : BadLine) (e : BadJournal)
    → given ≡ tables → z ≡ y → Replays given z J (Err cause) → e ≡ bad_line cause → IsBadFront tables y J e
no_front tables given y z J cause e same there h is =
    subst (IsBadFront tables y J) (sym is)
    (front_told tables y J cause
    (subst (λ (x : Yard). Replays tables x J (Err cause)) there
    (subst (λ (x : List Offer). Replays x z J (Err cause)) same h)))

-- a journal that isn't whole
pub not_whole : (tables given : List Offer) (y z : Yard) (J : Journal) (cause : BadLine) (e : BadJournal)
    → given ≡ tables → z ≡ y → Verifies given z J (Err cause) → e ≡ bad_line cause → IsBadLine tables y J e
not_whole tables given y z J cause e same there h is =
    subst (IsBadLine tables y J) (sym is)
    (lines_told tables y J cause
    (subst (λ (x : Yard). Verifies tables x J (Err cause)) there
    (subst (λ (x : List Offer). Verifies x z J (Err cause)) same h)))
