-- Rows that are lines of the journal.
use Rattle.std.proofs.Common.{◌≡◌, ℕ, zero, suc, ◌+◌, ◌<◌, List, [], ◌∷◌, ◌++◌, length, take, drop, sym, ap, subst, ◌∙◌}
use Rattle.std.proofs.Common.{arith, get_or}
use Rattle.std.specs.Prelude.{Some, slice_get}
use Rattle.std.proofs.lemmas.List.{get_or-drop, length-drop, length-take, take_more}
use Rattle.std.proofs.lemmas.Option.{get_or_from_slice_get, slice_get_within}
use Rattle.rail_model.specs.declared.types.Line.{Line}
use Rattle.rail_model.specs.Names.{Names}
use Rattle.live_answers.specs.Rows.{AreRows}
use Rattle.live_lines.proofs.Telling.{more_text, no_text}
use Rattle.live_lines.specs.Kinds.{TellsLines}

module _ (N : Names) (ls : List Line) (from : ℕ) where
  -- so many lines after the first so many
  abbrev pub between : ℕ → List Line
  between count = take count (drop from ls)

  -- one more of them
  next_line : (k : ℕ) (l : Line) → slice_get ls (from + k) ≡ Some l
      → (between (k + 1) ≡ between k ++ l ∷ []) × (length (between k) ≡ k)
  next_line k l here =
      let within : from + k < length ls = slice_get_within ls (from + k) l here in
      let rest : k < length (drop from ls) = omega (arith, length-drop from ls) in
      let is : get_or (drop from ls) k l ≡ l = get_or-drop from ls k l
      ∙ get_or_from_slice_get ls (from + k) l l here in (
        take_more (drop from ls) k l rest ∙ ap (λ (x : Line). between k ++ x ∷ []) is,
        omega (arith, length-take k (drop from ls)),
      )

  pub journal_rows : (R : ℕ → List ℕ → Type 0)
      → ((k : ℕ) (text : List ℕ) → R k text
      → (l : Line) × (slice_get ls (from + k) ≡ Some l) × TellsLines N (from + k) (l ∷ []) text)
      → (count : ℕ) (text : List ℕ) → AreRows R count text → TellsLines N from (between count) text
  journal_rows R each zero text none = subst (TellsLines N from []) (sym none) (no_text N from)
  journal_rows R each (suc count) text (before, last, first, row, joined) =
      let line = each count last row in
      let next = next_line count line.0 line.1 in
      let more : count + 1 ≡ suc count = omega arith in
      subst (λ k. TellsLines N from (between k) text) more
      (subst (λ lines. TellsLines N from lines text) (sym next.0)
      (subst (TellsLines N from (between count ++ line.0 ∷ [])) (sym joined)
      (more_text N from (between count) (line.0 ∷ []) before last (journal_rows R each count before first)
      (subst (λ k. TellsLines N (from + k) (line.0 ∷ []) last) (sym next.1) line.2))))
