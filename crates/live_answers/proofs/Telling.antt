-- Rows and answers on trains have no line of the journal.
use Rattle.std.proofs.Common.{ℕ, zero, suc, List, [], ◌++◌, Bool, length, sym, subst, refl, inl, inr}
use Rattle.rail_model.specs.declared.types.Line.{Line}
use Rattle.rail_model.specs.Names.{Names}
use Rattle.live_lines.proofs.Beginnings.{answers, no_digit, rows}
use Rattle.live_lines.proofs.Telling.{no_text, other_line, others_then}
use Rattle.live_lines.specs.Kinds.{IsTag, TellsLines}
use Rattle.live_lines.specs.declared.answers.Answer.TheVariants.{Refused, Train}
use Rattle.live_lines.specs.declared.refusals.Refusal.TheVariants.{Lost}
use Rattle.live_lines.specs.declared.rows.Row.TheVariants as row
use Rattle.live_lines.specs.declared.session.Counts.{Counts}
use Rattle.live_lines.specs.declared.trains.TrainAnswer.TheVariants as train
use Rattle.live_yard.specs.declared.told.Told.{Told}
use Rattle.live_answers.specs.Rows.{AreRows, IsToldAnswer, IsToldRow, TellsAll, TellsState, TellsWhy}
use Rattle.live_answers.specs.Seen.{Seen}
use Rattle.live_answers.specs.Since.{TellsSince}

module _ (N : Names) (n : ℕ) (tag : List ℕ) (is : IsTag tag) where
  -- rows, each of which has none
  rows_of : (R : ℕ → List ℕ → Type 0) → ((k : ℕ) (text : List ℕ) → R k text → TellsLines N n [] text)
      → (count : ℕ) (text : List ℕ) → AreRows R count text → TellsLines N n [] text
  rows_of R each zero text none = subst (TellsLines N n []) (sym none) (no_text N n)
  rows_of R each (suc count) text (before, last, first, later, joined) =
      subst (TellsLines N n []) (sym joined)
      (others_then N n [] before last (rows_of R each count before first) (each count last later))

  -- an answer behind rows
  behind_rows : (R : ℕ → List ℕ → Type 0) → ((k : ℕ) (text : List ℕ) → R k text → TellsLines N n [] text)
      → (count : ℕ) (before answer : List ℕ) → AreRows R count before → TellsLines N n [] answer
      → TellsLines N n [] (before ++ answer)
  behind_rows R each count before answer first last =
      others_then N n [] before answer (rows_of R each count before first) last

  pub told_answer : (v : Seen) (i : ℕ) (told : Told) (text : List ℕ) → IsToldAnswer N v tag i told text
      → TellsLines N n [] text
  told_answer v i told text (what, prospect, says) =
      subst (TellsLines N n []) (sym says) (other_line N n tag _ is (answers N (Train (train.Told what))))

  told_row : (v : Seen) (i : ℕ) (told : Told) (text : List ℕ) → IsToldRow N v tag i told text → TellsLines N n [] text
  told_row v i told text (what, prospect, says) =
      subst (TellsLines N n []) (sym says) (other_line N n tag _ is (rows N (row.Told what)))

  pub all_told : (v : Seen) (text : List ℕ) → TellsAll N v tag text → TellsLines N n [] text
  all_told v text (tolds, before, told, first, says) =
      subst (TellsLines N n []) (sym says)
      (behind_rows _ (λ k row. told_row v k _ row) _ before _ first (other_line N n tag _ is (no_digit _ _ refl)))

  pub state_told : (v : Seen) (reports : Bool) (counts : Counts) (text : List ℕ)
      → TellsState N v tag reports counts text → TellsLines N n [] text
  state_told v reports counts text (tolds, before, told, first, says) =
      subst (TellsLines N n []) (sym says)
      (behind_rows _
      (λ k row at. subst (TellsLines N n []) (sym at) (other_line N n tag _ is (no_digit _ _ refl)))
      _ before _ first (other_line N n tag _ is (no_digit _ _ refl)))

  pub why_told : (v : Seen) (i : ℕ) (text : List ℕ) → TellsWhy N v tag i text → TellsLines N n [] text
  why_told v i text (tolds, waiting, before, told, awaited, first, says) =
      subst (TellsLines N n []) (sym says)
      (behind_rows _ (λ k row. told_row v _ _ row) _ before _ first (other_line N n tag _ is (no_digit _ _ refl)))

  pub since_told : (lines : List Line) (from : ℕ) (text : List ℕ) → TellsSince N tag lines from text
      → TellsLines N n [] text
  since_told lines from text told = elim told [
    | inl lost ↦ subst (TellsLines N n []) (sym lost.1)
        (other_line N n tag _ is (answers N (Refused (Lost (length lines)))))
    | inr some ↦ subst (TellsLines N n []) (sym some.1.2)
        (behind_rows _
        (λ k row at. subst (TellsLines N n []) (sym at.2) (other_line N n tag _ is (no_digit _ _ refl)))
        _ some.1.0 _ some.1.1 (other_line N n tag _ is (no_digit _ _ refl)))
  ]
