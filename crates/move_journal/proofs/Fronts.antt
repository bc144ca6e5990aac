-- The lines that were read, and where the reader stops.
use Rattle.std.proofs.Common.{◌≡◌, ℕ, ◌+◌, ◌<◌, List, [], ◌∷◌, ◌++◌, length, refl, sym, ap, ◌∙◌, codes, decimal, arith, length-append}
use Rattle.std.proofs.lemmas.List.{append_assoc, append-nil}
use Rattle.std.proofs.lemmas.List.Elements.{All-push}
use Rattle.rail_model.specs.declared.types.Line.{Line}
use Rattle.rail_model.specs.Names.{Names}
use Rattle.rail_model.specs.Journal.{Journal, words, end_text, lines_text, text}
use Rattle.move_journal.specs.declared.faults.BadText.TheVariants.{NoEnd}
use Rattle.move_journal.specs.Printable.{IsPrintable}
use Rattle.move_journal.specs.Answers.{BeginsWithLine, ReadsLines, HasTextFault, IsFrontOf}
use Rattle.move_journal.proofs.Begins.{line_cut}

-- the text of lines and further lines
pub lines_text-append : (N : Names) (k : ℕ) (front later : List Line) → lines_text N k (front ++ later) ≡ lines_text N k front ++ lines_text N (k + length front) later
lines_text-append N k [] later = let same : k ≡ k + 0 = omega arith in ap (λ n. lines_text N n later) same
lines_text-append N k (x ∷ xs) later =
    let line = decimal k ++ words N x ++ codes "\n" in
    let same : k + 1 + length xs ≡ k + length (x ∷ xs) = omega arith in
    ap (λ t. line ++ t) (lines_text-append N (k + 1) xs later ∙ ap (λ n. lines_text N (k + 1) xs ++ lines_text N n later) same)
    ∙ sym (append_assoc line (lines_text N (k + 1) xs) (lines_text N (k + length (x ∷ xs)) later))

-- one more line, whose number is n
lines_text-push : (N : Names) (n : ℕ) (lines : List Line) (l : Line) → n ≡ length lines + 1
    → lines_text N 1 (lines ++ l ∷ []) ≡ lines_text N 1 lines ++ (decimal n ++ words N l ++ codes "\n")
lines_text-push N n lines l is =
    let same : 1 + length lines ≡ n = omega arith in
    lines_text-append N 1 lines (l ∷ [])
    ∙ ap (λ m. lines_text N 1 lines ++ (decimal m ++ words N l ++ codes "\n" ++ [])) same
    ∙ ap (λ t. lines_text N 1 lines ++ t) (append-nil (decimal n ++ words N l ++ codes "\n"))

-- the text of a journal that goes on from a front
pub text_goes_on : (N : Names) (bytes : List ℕ) (front whole : Journal) (added : List Line) → IsFrontOf N bytes front → whole.lines ≡ front.lines ++ added
    → text N whole ≡ bytes ++ (lines_text N (length front.lines + 1) added ++ end_text whole.moves whole.tables)
text_goes_on N bytes front whole added is longer =
    let ending = end_text whole.moves whole.tables in
    let same : 1 + length front.lines ≡ length front.lines + 1 = omega arith in
    ap (λ t. t ++ ending) (ap (lines_text N 1) longer ∙ lines_text-append N 1 front.lines added
    ∙ ap (λ n. lines_text N 1 front.lines ++ lines_text N n added) same ∙ ap (λ t. t ++ lines_text N (length front.lines + 1) added) (sym is.text))
    ∙ append_assoc bytes (lines_text N (length front.lines + 1) added) ending

pub reads_more : (N : Names) (bytes : List ℕ) (lines : List Line) (rest : List ℕ) (n : ℕ) (l : Line) (later : List ℕ)
    → ReadsLines N bytes lines rest → BeginsWithLine N rest n l later → n ≡ length lines + 1 → ReadsLines N bytes (lines ++ l ∷ []) later
reads_more N bytes lines rest n l later r b e =
    let line = decimal n ++ words N l ++ codes "\n" in
    record {
      printable = record {
        few = omega (arith, length-append lines (l ∷ []), b.number);
        each = All-push (IsPrintable N) lines l r.printable.each b.line;
      };
      text = r.text ∙ ap (λ t. lines_text N 1 lines ++ t) b.text ∙ sym (append_assoc (lines_text N 1 lines) line later) ∙ ap (λ t. t ++ later) (sym (lines_text-push N n lines l e));
    }

pub line_shorter : (N : Names) (rest : List ℕ) (n : ℕ) (l : Line) (later : List ℕ) → BeginsWithLine N rest n l later → length later < length rest
line_shorter N rest n l later b = omega (arith, ap length (line_cut N rest n l later b), length-append (decimal n ++ words N l) (10 ∷ later))

pub no_end : (N : Names) (bytes : List ℕ) (K : Journal) → IsFrontOf N bytes K → HasTextFault N bytes NoEnd
no_end N bytes K f = (K.lines, [], record { printable = f.lines; text = f.text ∙ sym (append-nil (lines_text N 1 K.lines)) }, refl)
