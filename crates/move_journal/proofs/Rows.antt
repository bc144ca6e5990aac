-- Worked rows: texts that are read, and texts with each fault.
use Rattle.std.proofs.Common.{◌≡◌, ℕ, ◌<◌, List, [], ◌∷◌, ◌++◌, length, true, not, Some, None, Ok, Err, refl, sym, codes, lit<, arith}
use Rattle.std.specs.Prelude.{◌==◌}
use Rattle.std.specs.List.{list_all}
use Rattle.std.proofs.lemmas.Bool.Decides.{nat_tests}
use Rattle.std.proofs.lemmas.Fmt.{decimal_digit}
use Rattle.std.proofs.lemmas.List.Elements.{All-nil, All-cons}
use Rattle.decimal_number.specs.Decimal.{number_of}
use Rattle.rail_model.specs.declared.types.Line.{Line}
use Rattle.rail_model.specs.declared.types.Line.TheVariants.{Move, Table, KeptDiffers, KeptOver}
use Rattle.rail_model.specs.Journal.{text, with_counts}
use Rattle.move_journal.specs.declared.faults.BadText.TheVariants.{Line as BadLine, Number, After, NoEnd}
use Rattle.move_journal.specs.declared.lines.Part.TheVariants.{Whole, Open}
use Rattle.move_journal.specs.declared.reading.Head.TheVariants.{Other}
use Rattle.move_journal.specs.Printable.{IsNamed, IsPrintable, ArePrintable}
use Rattle.move_journal.specs.Answers.{IsTextOf, IsFrontOf, ReadsLines, HasTextFault, ReadsJournal, AnswersPrefix}
use Rattle.move_journal.specs.Words.{word_list, called, target_of, move_of, table_of, differs_of, over_of, kept_of, line_of, numbered_of, field_of, end_of}
use Rattle.move_journal.proofs.Again.{IsOneLine}
use Rattle.move_journal.proofs.Begins.{begins_with, begins_none}
use Rattle.move_journal.proofs.Samples.{names, are_names}

move_words : numbered_of names (word_list (codes "1 move T0 A B")) ≡ Some (1, Move 0 0 (Some 1))
unfolding numbered_of line_of move_of target_of called number_of word_list
move_words = refl

exit_words : numbered_of names (word_list (codes "12 move T0 C -")) ≡ Some (12, Move 0 2 None)
unfolding numbered_of line_of move_of target_of called number_of word_list
exit_words = refl

table_words : numbered_of names (word_list (codes "3 table 1")) ≡ Some (3, Table 1)
unfolding numbered_of line_of table_of number_of word_list
table_words = refl

differs_words : numbered_of names (word_list (codes "4 kept 2 differs T0 1")) ≡ Some (4, KeptDiffers 2 0 1)
unfolding numbered_of line_of kept_of differs_of called number_of word_list
differs_words = refl

over_words : numbered_of names (word_list (codes "5 kept 3 over 0 128")) ≡ Some (5, KeptOver 3 0 128)
unfolding numbered_of line_of kept_of over_of number_of word_list
over_words = refl

end_words : end_of (word_list (codes "end moves=2 tables=1")) ≡ Some (2, 1)
unfolding end_of field_of number_of word_list
end_words = refl

leading_zero : numbered_of names (word_list (codes "01 move T0 A B")) ≡ None
unfolding numbered_of number_of word_list
leading_zero = refl

too_great : numbered_of names (word_list (codes "4294967296 move T0 A B")) ≡ None
unfolding numbered_of number_of word_list
too_great = refl

from_nowhere : numbered_of names (word_list (codes "1 move T0 - A")) ≡ None
unfolding numbered_of line_of move_of called number_of word_list
from_nowhere = refl

unknown_train : numbered_of names (word_list (codes "1 move T1 A B")) ≡ None
unfolding numbered_of line_of move_of called number_of word_list
unknown_train = refl

two_spaces : numbered_of names (word_list (codes "1 table  1")) ≡ None
unfolding numbered_of line_of table_of number_of word_list
two_spaces = refl

end_with_zeros : end_of (word_list (codes "end moves=00 tables=0")) ≡ None
unfolding end_of field_of number_of word_list
end_with_zeros = refl

-- the first path: T0 goes from A over B to C
abbrev lines : List Line
lines = Move 0 0 (Some 1) ∷ Move 0 1 (Some 2) ∷ []

printed : text names (with_counts lines) ≡ codes "1 move T0 A B\n2 move T0 B C\nend moves=2 tables=0\n"
printed = rw (decimal_digit 1 (lit< tt), decimal_digit 2 (lit< tt), decimal_digit 0 (lit< tt)) refl

are_printable : ArePrintable names lines
are_printable = record {
  few = lit< tt;
  each = All-cons (IsPrintable names) (Move 0 0 (Some 1)) (Move 0 1 (Some 2) ∷ []) (lit< tt, lit< tt, lit< tt)
      (All-cons (IsPrintable names) (Move 0 1 (Some 2)) [] (lit< tt, lit< tt, lit< tt) (All-nil (IsPrintable names)));
}

whole : IsTextOf names (codes "1 move T0 A B\n2 move T0 B C\nend moves=2 tables=0\n") (with_counts lines)
whole = record { has = record { lines = are_printable; moves = lit< tt; tables = lit< tt }; text = sym printed }

front : IsFrontOf names (codes "1 move T0 A B\n2 move T0 B C\n") (with_counts lines)
front = record {
  lines = are_printable;
  text = sym (rw (decimal_digit 1 (lit< tt), decimal_digit 2 (lit< tt)) refl);
  counts = (refl, refl);
}

read_whole : ReadsJournal names (codes "1 move T0 A B\n2 move T0 B C\nend moves=2 tables=0\n") (Ok (with_counts lines))
read_whole = whole

prefix_whole : AnswersPrefix names (codes "1 move T0 A B\n2 move T0 B C\nend moves=2 tables=0\n") (Ok (Whole (with_counts lines)))
prefix_whole = whole

prefix_open : AnswersPrefix names (codes "1 move T0 A B\n2 move T0 B C\n") (Ok (Open (with_counts lines)))
prefix_open = front

named_exit : IsNamed names (Move 0 2 None)
named_exit = (lit< tt, lit< tt, tt)

-- no line was read
nothing : (bytes : List ℕ) → ReadsLines names bytes [] bytes
nothing bytes = record { printable = record { few = lit< tt; each = All-nil (IsPrintable names) }; text = refl }

one_line : (w : List ℕ) → list_all (λ b. not (b == 10)) w ≡ true → IsOneLine w
one_line [] e = All-nil (λ b. b ≡ 10 → ⊥)
one_line (b ∷ w) e =
    let here : b ≡ 10 → ⊥ = λ same. grind (arith, nat_tests) in
    let later : list_all (λ c. not (c == 10)) w ≡ true = grind (arith, nat_tests) in
    All-cons (λ c. c ≡ 10 → ⊥) b w here (one_line w later)

-- a text whose first line has no form
no_form : (content later : List ℕ) → list_all (λ b. not (b == 10)) content ≡ true
    → numbered_of names (word_list content) ≡ None → end_of (word_list content) ≡ None → HasTextFault names (content ++ 10 ∷ later) (BadLine 1)
no_form content later one no_line no_end = (
  [],
  content ++ 10 ∷ later,
  nothing (content ++ 10 ∷ later),
  (refl, some content, begins_with names (content ++ 10 ∷ later) content later Other are_names refl (one_line content one) (no_line, no_end)),
)
  where
    some : (content : List ℕ) → 0 < length (content ++ 10 ∷ later)
    some [] = omega arith
    some (b ∷ bs) = omega arith

no_end_line : end_of (word_list (codes "01 move T0 A B")) ≡ None
unfolding end_of word_list
no_end_line = refl

first_line_has_zero : HasTextFault names (codes "01 move T0 A B\n2 move T0 B C\nend moves=2 tables=0\n") (BadLine 1)
first_line_has_zero = no_form (codes "01 move T0 A B") (codes "2 move T0 B C\nend moves=2 tables=0\n") refl leading_zero no_end_line

first_number_is_two : HasTextFault names (codes "2 move T0 A B\n") (Number 1)
first_number_is_two = (
  [],
  codes "2 move T0 A B\n",
  nothing _,
  (refl, (2, Move 0 0 (Some 1), [], record { number = lit< tt; line = (lit< tt, lit< tt, lit< tt); text = sym (rw (decimal_digit 2 (lit< tt)) refl) }, λ e. absurd (omega arith))),
)

bytes_after : HasTextFault names (codes "end moves=0 tables=0\n\n") After
bytes_after = (
  [],
  codes "end moves=0 tables=0\n\n",
  nothing _,
  (0, 0, codes "\n", record { few_moves = lit< tt; few_tables = lit< tt; text = sym (rw (decimal_digit 0 (lit< tt)) refl) }, lit< tt),
)

no_end : HasTextFault names [] NoEnd
no_end = ([], [], nothing [], refl)

end_without_newline : ReadsJournal names (codes "end moves=0 tables=0") (Err (BadLine 1))
end_without_newline = (
  [],
  codes "end moves=0 tables=0",
  nothing _,
  (refl, lit< tt, begins_none names (codes "end moves=0 tables=0") (one_line (codes "end moves=0 tables=0") refl)),
)
