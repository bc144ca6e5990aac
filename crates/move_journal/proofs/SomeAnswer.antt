-- For each text there is an answer.
use Rattle.std.proofs.Common.{◌≡◌, ◌⊎◌, ℕ, zero, suc, ◌+◌, ◌<◌, ◌≤◌, List, [], ◌∷◌, ◌++◌, length, Option, Some, None, Result, Ok, Err, refl, ap, ◌∙◌, lit<, arith, inl, inr}
use Rattle.std.proofs.lemmas.Bool.{cases_eq}
use Rattle.std.proofs.lemmas.List.{append-nil}
use Rattle.std.proofs.lemmas.List.Elements.{All-nil, All-cons}
use Rattle.rail_model.specs.declared.types.Line.{Line}
use Rattle.rail_model.specs.Names.{Names, IsNames}
use Rattle.rail_model.specs.Journal.{Journal, lines_text, end_text, with_counts}
use Rattle.move_journal.specs.declared.faults.BadText.{BadText}
use Rattle.move_journal.specs.declared.faults.BadText.TheVariants.{Line as BadLine, Number, After, NoEnd, Memory}
use Rattle.move_journal.specs.declared.lines.Part.{Part}
use Rattle.move_journal.specs.declared.lines.Part.TheVariants.{Whole, Open}
use Rattle.move_journal.specs.declared.reading.Head.{Head}
use Rattle.move_journal.specs.declared.reading.Head.TheVariants.{Numbered, End, Other}
use Rattle.move_journal.specs.Printable.{IsPrintable}
use Rattle.move_journal.specs.Answers.{IsTextOf, IsFrontOf, BeginsWithEnd, ReadsLines, Stops, ReadsJournal, AnswersPrefix}
use Rattle.move_journal.specs.Heads.{IsHead, IsContent}
use Rattle.move_journal.specs.Words.{word_list, numbered_of, end_of}
use Rattle.move_journal.proofs.Again.{IsOneLine}
use Rattle.move_journal.proofs.Begins.{begins_with, begins_none}
use Rattle.move_journal.proofs.Fronts.{reads_more, line_shorter}
use Rattle.move_journal.proofs.Once.{Ending, bad, ended}
use Rattle.move_journal.proofs.OneAnswer.{Way}

-- the bytes up to the first newline, if there is one
first_newline : (bytes : List ℕ) → ((content : List ℕ) × (later : List ℕ) × (bytes ≡ content ++ 10 ∷ later) × IsOneLine content) ⊎ IsOneLine bytes
first_newline [] = inr (All-nil (λ b. b ≡ 10 → ⊥))
first_newline (b ∷ bytes) = elim (cases_eq b 10) [
  | inl same ↦ inl ([], bytes, ap (λ c. c ∷ bytes) same, All-nil (λ b. b ≡ 10 → ⊥))
  | inr other ↦ elim (first_newline bytes) [
    | inl h ↦ inl (b ∷ h.0, h.1, ap (λ bs. b ∷ bs) h.2, All-cons (λ b. b ≡ 10 → ⊥) b h.0 other h.3)
    | inr h ↦ inr (All-cons (λ b. b ≡ 10 → ⊥) b bytes other h)
  ]
]

content_is : (N : Names) (content : List ℕ) (line : Option (ℕ × Line)) (counts : Option (ℕ × ℕ)) → numbered_of N (word_list content) ≡ line → end_of (word_list content) ≡ counts
    → (head : Head) × IsContent N content head
content_is N content (Some (n, l)) counts e f = (Numbered n l, e)
content_is N content None (Some (m, t)) e f = (End m t, f)
content_is N content None None e f = (Other, (e, f))

-- what any bytes begin with
begins : (N : Names) (rest : List ℕ) → IsNames N → (head : Head) × (later : List ℕ) × IsHead N rest head later
begins N rest names = elim (first_newline rest) [
  | inl h ↦
      let c = content_is N h.0 (numbered_of N (word_list h.0)) (end_of (word_list h.0)) refl refl in
      (c.0, h.1, begins_with N rest h.0 h.1 c.0 names h.2 h.3 c.1)
  | inr one ↦ (Other, [], begins_none N rest one)
]

-- some way to read the bytes
abbrev Readable : Names → List ℕ → Type 0
Readable N bytes = (lines : List Line) × (e : Ending) × Way N bytes lines e

-- the reader stops here
stops : (N : Names) (bytes : List ℕ) (lines : List Line) (rest : List ℕ) (e : BadText) → ReadsLines N bytes lines rest → Stops N (length lines + 1) rest e → Readable N bytes
stops N bytes lines rest e reads why = (lines, bad e, record { rest = rest; reads = reads; ends = why })

-- an end line, with nothing after it or with something
at_end : (N : Names) (bytes : List ℕ) (lines : List Line) (rest : List ℕ) (m t : ℕ) (later : List ℕ) → ReadsLines N bytes lines rest → BeginsWithEnd rest m t later → Readable N bytes
at_end N bytes lines rest m t [] reads is = (lines, ended m t, record { rest = rest; reads = reads; ends = is })
at_end N bytes lines rest m t (b ∷ later) reads is = stops N bytes lines rest After reads (m, t, b ∷ later, is, omega arith)

-- what comes of the first line of the rest, where shorter rests can be read
by_head : (N : Names) (bytes : List ℕ) (lines : List Line) (rest : List ℕ) (head : Head) (later : List ℕ) → 0 < length rest → ReadsLines N bytes lines rest → IsHead N rest head later
    → ((more : List Line) (behind : List ℕ) → length behind < length rest → ReadsLines N bytes more behind → Readable N bytes) → Readable N bytes
by_head N bytes lines rest (Numbered n l) later some reads is reads_on = elim (cases_eq n (length lines + 1)) [
  | inl next ↦ reads_on (lines ++ l ∷ []) later (line_shorter N rest n l later is) (reads_more N bytes lines rest n l later reads is next)
  | inr other ↦ stops N bytes lines rest (Number (length lines + 1)) reads (refl, (n, l, later, is, other))
]
by_head N bytes lines rest (End m t) later some reads is reads_on = at_end N bytes lines rest m t later reads is
by_head N bytes lines rest Other later some reads is reads_on = stops N bytes lines rest (BadLine (length lines + 1)) reads (refl, some, is)

reads_up_to : (N : Names) (bytes : List ℕ) (most : ℕ) (lines : List Line) (rest : List ℕ) → IsNames N → length rest ≤ most → ReadsLines N bytes lines rest → Readable N bytes
reads_up_to N bytes most lines [] names short reads = stops N bytes lines [] NoEnd reads refl
reads_up_to N bytes zero lines (b ∷ bs) names short reads = absurd (omega (arith, short))
reads_up_to N bytes (suc most) lines (b ∷ bs) names short reads =
    let first = begins N (b ∷ bs) names in
    by_head N bytes lines (b ∷ bs) first.0 first.1 (omega arith) reads first.2
    (λ more behind shorter longer. reads_up_to N bytes most more behind names (omega (arith, short, shorter)) longer)

readable : (N : Names) (bytes : List ℕ) → IsNames N → Readable N bytes
readable N bytes names =
    reads_up_to N bytes (length bytes) [] bytes names (omega arith)
    (record { printable = record { few = lit< tt; each = All-nil (IsPrintable N) }; text = refl })

-- the text of a journal, from a way that ends with its end line
text_of_way : (N : Names) (bytes : List ℕ) (lines : List Line) (m t : ℕ) → Way N bytes lines (ended m t) → IsTextOf N bytes (record { lines = lines; moves = m; tables = t })
text_of_way N bytes lines m t w = record {
  has = record { lines = w.reads.printable; moves = w.ends.few_moves; tables = w.ends.few_tables };
  text = w.reads.text ∙ ap (λ r. lines_text N 1 lines ++ r) (w.ends.text ∙ append-nil (end_text m t));
}

-- the front of a text, from a way that ends with the bytes
front_of_way : (N : Names) (bytes : List ℕ) (lines : List Line) → Way N bytes lines (bad NoEnd) → IsFrontOf N bytes (with_counts lines)
front_of_way N bytes lines w = record {
  lines = w.reads.printable;
  text = w.reads.text ∙ ap (λ r. lines_text N 1 lines ++ r) (no_bytes w.rest w.ends) ∙ append-nil (lines_text N 1 lines);
  counts = (refl, refl);
}
  where
    no_bytes : (rest : List ℕ) → length rest ≡ 0 → rest ≡ []
    no_bytes [] e = refl
    no_bytes (b ∷ rest) e = absurd (omega (arith, e))

answer_of_way : (N : Names) (bytes : List ℕ) (lines : List Line) (e : Ending) → Way N bytes lines e → (a : Result Journal BadText) × (a ≡ Err Memory → ⊥) × ReadsJournal N bytes a
answer_of_way N bytes lines (ended m t) w = (Ok (record { lines = lines; moves = m; tables = t }), (λ e. absurd cc), text_of_way N bytes lines m t w)
answer_of_way N bytes lines (bad (BadLine j)) w = (Err (BadLine j), (λ e. absurd cc), (lines, w.rest, w.reads, w.ends))
answer_of_way N bytes lines (bad (Number j)) w = (Err (Number j), (λ e. absurd cc), (lines, w.rest, w.reads, w.ends))
answer_of_way N bytes lines (bad After) w = (Err After, (λ e. absurd cc), (lines, w.rest, w.reads, w.ends))
answer_of_way N bytes lines (bad NoEnd) w = (Err NoEnd, (λ e. absurd cc), (lines, w.rest, w.reads, w.ends))
answer_of_way N bytes lines (bad Memory) w = absurd w.ends

prefix_of_way : (N : Names) (bytes : List ℕ) (lines : List Line) (e : Ending) → Way N bytes lines e → (a : Result Part BadText) × (a ≡ Err Memory → ⊥) × AnswersPrefix N bytes a
prefix_of_way N bytes lines (ended m t) w = (Ok (Whole (record { lines = lines; moves = m; tables = t })), (λ e. absurd cc), text_of_way N bytes lines m t w)
prefix_of_way N bytes lines (bad (BadLine j)) w = (Err (BadLine j), (λ e. absurd cc), (lines, w.rest, w.reads, w.ends))
prefix_of_way N bytes lines (bad (Number j)) w = (Err (Number j), (λ e. absurd cc), (lines, w.rest, w.reads, w.ends))
prefix_of_way N bytes lines (bad After) w = (Err After, (λ e. absurd cc), (lines, w.rest, w.reads, w.ends))
prefix_of_way N bytes lines (bad NoEnd) w = (Ok (Open (with_counts lines)), (λ e. absurd cc), front_of_way N bytes lines w)
prefix_of_way N bytes lines (bad Memory) w = absurd w.ends

pub some_answer : (N : Names) (bytes : List ℕ) → IsNames N → (a : Result Journal BadText) × (a ≡ Err Memory → ⊥) × ReadsJournal N bytes a
some_answer N bytes names = let way = readable N bytes names in answer_of_way N bytes way.0 way.1 way.2

pub some_prefix : (N : Names) (bytes : List ℕ) → IsNames N → (a : Result Part BadText) × (a ≡ Err Memory → ⊥) × AnswersPrefix N bytes a
some_prefix N bytes names = let way = readable N bytes names in prefix_of_way N bytes way.0 way.1 way.2
