-- The texts of lines with their ticks, read line by line.
use Rattle.std.proofs.Common.{◌≡◌, ◌∙◌, ℕ, ◌+◌, List, [], ◌∷◌, ◌++◌, All, codes, decimal, length, map, refl, sym, ap, subst, arith, length-append}
use Rattle.std.proofs.lemmas.Fmt.{decimal_digit}
use Rattle.std.proofs.lemmas.List.{append_assoc, append-nil, append_cancel_left, append_cancel_right, map-append, length-map}
use Rattle.std.proofs.lemmas.List.Elements.{All-nil, All-head, All-push}
use Rattle.rail_model.specs.declared.types.Line.{Line}
use Rattle.rail_model.specs.Journal.{Journal, end_text, lines_text, words}
use Rattle.rail_model.specs.Names.{Names}
use Rattle.move_journal.specs.Answers.{IsFrontOf, IsTextOf}
use Rattle.move_journal.specs.Printable.{IsPrintable, ArePrintable}
use Rattle.timed_reading.specs.declared.ticks.Timed.{Timed}
use Rattle.timed_reading.specs.Told.{line_of, ticked, ticked_text, moves_in, tables_in, last_tick, last_text, IsLineAfterTick, IsTicked, IsOneMore, IsTimedText}

-- the text of one line more
ticked_more : (N : Names) (lines : List Timed) (t : Timed) → ticked_text N (lines ++ t ∷ []) ≡ ticked_text N lines ++ (ticked N t ++ codes "\n")
ticked_more N [] t = append-nil (ticked N t ++ codes "\n")
ticked_more N (x ∷ xs) t =
    ap (λ later. ticked N x ++ codes "\n" ++ later) (ticked_more N xs t)
    ∙ sym (append_assoc (ticked N x ++ codes "\n") (ticked_text N xs) (ticked N t ++ codes "\n"))

-- These lines were read, and the rest is left.
pub record IsReadTo (N : Names) (bytes : List ℕ) (lines : List Timed) (rest : List ℕ) : Type 0 where
  pub printable : ArePrintable N (map line_of lines)
  pub text : bytes ≡ ticked_text N lines ++ rest

module _ (N : Names) (bytes : List ℕ) where
  pub reads_none : IsReadTo N bytes [] bytes
  reads_none = record { printable = record { few = omega arith; each = All-nil (IsPrintable N) }; text = refl }

  module _ (lines : List Timed) (rest front later : List ℕ) (read : IsReadTo N bytes lines rest) (cut : rest ≡ front ++ 10 ∷ later) where
    -- one line more
    pub reads_more : (after : List Timed) → IsOneMore N front lines after → IsReadTo N bytes after later
    reads_more after more =
        let t = more.line in
        let line = ticked N t ++ codes "\n" in
        let many : length (map line_of (lines ++ t ∷ [])) ≡ length lines + 1 = length-map (lines ++ t ∷ []) line_of ∙ length-append lines (t ∷ []) in
        record {
          printable = subst (λ (all : List Timed). ArePrintable N (map line_of all)) (sym more.added) (record {
            few = omega (arith, many, more.few);
            each = subst (All (IsPrintable N)) (sym (map-append line_of lines (t ∷ []))) (All-push (IsPrintable N) (map line_of lines) t.line read.printable.each more.is.printable);
          });
          text =
              read.text
              ∙ ap (λ (left : List ℕ). ticked_text N lines ++ left) (cut ∙ ap (λ (w : List ℕ). w ++ 10 ∷ later) more.is.text ∙ sym (append_assoc (ticked N t) (codes "\n") later))
              ∙ sym (append_assoc (ticked_text N lines) line later)
              ∙ ap (λ (done : List ℕ). done ++ later) (sym (ticked_more N lines t) ∙ ap (ticked_text N) (sym more.added));
        }

    -- the end line, with nothing after it
    pub reads_whole : later ≡ [] → front ++ codes "\n" ≡ last_text lines → IsTimedText N bytes lines
    reads_whole none end = record {
      printable = read.printable;
      text = read.text ∙ ap (λ (left : List ℕ). ticked_text N lines ++ left) (cut ∙ ap (λ (left : List ℕ). front ++ 10 ∷ left) none ∙ end);
    }

-- a line with its tick
pub is_ticked : (N : Names) (bytes rest : List ℕ) (t : Timed) → bytes ≡ decimal t.tick ++ 32 ∷ rest → IsLineAfterTick N (32 ∷ rest) t.line → IsTicked N bytes t
is_ticked N bytes rest t cut is = record { printable = is.printable; text = cut ∙ ap (λ (left : List ℕ). decimal t.tick ++ left) is.text }

-- the only line of a journal whose text was made of some bytes
pub only_line_is : (N : Names) (bytes made : List ℕ) (J : Journal) (l : Line) → made ≡ codes "1 " ++ bytes ++ codes "\n" → IsFrontOf N made J → J.lines ≡ l ∷ [] → IsLineAfterTick N (32 ∷ bytes) l
only_line_is N bytes made J l made_of front only =
    let told : codes "1 " ++ bytes ++ codes "\n" ≡ decimal 1 ++ words N l ++ codes "\n" =
    sym made_of ∙ front.text ∙ ap (lines_text N 1) only ∙ append-nil (decimal 1 ++ words N l ++ codes "\n") in
    let cut : codes "1 " ++ bytes ≡ decimal 1 ++ words N l = append_cancel_right (codes "1 " ++ bytes) (decimal 1 ++ words N l) (codes "\n") told in
    let one : decimal 1 ≡ codes "1" = decimal_digit 1 (omega arith) in
    record {
      printable = All-head (IsPrintable N) l [] (subst (All (IsPrintable N)) only front.lines.each);
      text = append_cancel_left (codes "1") (32 ∷ bytes) (words N l) (cut ∙ ap (λ (number : List ℕ). number ++ words N l) one);
    }

-- the end line of a journal without lines, whose text was made of some bytes
pub only_end_is : (N : Names) (made : List ℕ) (J : Journal) → IsTextOf N made J → J.lines ≡ [] → made ≡ end_text J.moves J.tables
only_end_is N made J is none = is.text ∙ ap (λ (lines : List Line). lines_text N 1 lines ++ end_text J.moves J.tables) none

-- an end line with the last tick
pub end_is : (bytes front : List ℕ) (lines : List Timed) (moves tables last : ℕ) → front ++ codes "\n" ≡ end_text moves tables → bytes ≡ front ++ codes " last=" ++ decimal last
    → moves ≡ moves_in lines → tables ≡ tables_in lines → last ≡ last_tick lines → bytes ++ codes "\n" ≡ last_text lines
end_is bytes front lines moves tables last said cut few_moves few_tables at =
    let counts : front ≡ codes "end moves=" ++ decimal moves ++ codes " tables=" ++ decimal tables = append_cancel_right front _ (codes "\n") said in
    ap (λ (b : List ℕ). b ++ codes "\n")
    (cut
    ∙ ap (λ (f : List ℕ). f ++ codes " last=" ++ decimal last) counts
    ∙ ap (λ m. codes "end moves=" ++ decimal m ++ codes " tables=" ++ decimal tables ++ codes " last=" ++ decimal last) few_moves
    ∙ ap (λ n. codes "end moves=" ++ decimal (moves_in lines) ++ codes " tables=" ++ decimal n ++ codes " last=" ++ decimal last) few_tables
    ∙ ap (λ n. codes "end moves=" ++ decimal (moves_in lines) ++ codes " tables=" ++ decimal (tables_in lines) ++ codes " last=" ++ decimal n) at)
