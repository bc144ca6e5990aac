-- Worked rows: the line between a document and a journal.
use Rattle.std.proofs.Common.{◌≡◌, ℕ, zero, suc, ◌<◌, Bool, true, false, not, ◌&&◌, List, length, codes, refl, sym, subst, arith, lit<, inl, inr, true≢false}
use Rattle.std.proofs.lemmas.Bool.{and_parts, cases_eq}
use Rattle.memchr.specs.Find.{OccursAt, occurs_at}
use Rattle.memchr.proofs.lemmas.MatchLemmas.{occurs_at-true, OccursAt-true}
use Rattle.ats_answers.specs.Journals.{mark, IsCutAt, HasNoCut, document_part, journal_part}

-- whether the mark is at none of the first places
abbrev nowhere : List ℕ → ℕ → Bool
nowhere input zero = true
nowhere input (suc n) = not (occurs_at input mark n) && nowhere input n

not_both : (b : Bool) → not b ≡ true → b ≡ true → ⊥
not_both true fails holds = true≢false (sym fails)
not_both false fails holds = true≢false (sym holds)

none_below : (input : List ℕ) (n : ℕ) → nowhere input n ≡ true → (j : ℕ) → j < n → OccursAt input mark j → ⊥
none_below input zero none j before occurs = omega (arith, before)
none_below input (suc n) none j before occurs =
    let parts = and_parts _ _ none in
    elim (cases_eq j n) [
      | inl same ↦ not_both (occurs_at input mark n) parts.0 (occurs_at-true input mark n (subst (OccursAt input mark) same occurs))
      | inr other ↦ none_below input n parts.1 j (omega (arith, before, other)) occurs
    ]

pub is_cut : (input : List ℕ) (k : ℕ) → occurs_at input mark k ≡ true → nowhere input k ≡ true → IsCutAt input k
is_cut input k here none = (OccursAt-true input mark k here, none_below input k none)

pub no_cut : (input : List ℕ) → nowhere input (length input) ≡ true → HasNoCut input
no_cut input none k occurs = none_below input (length input) none k (omega (arith, occurs.fits)) occurs

-- two lines `journal`: the first parts the input
abbrev two_marks : List ℕ
two_marks = codes "{}\njournal\n1 table 1\njournal\nend\n"

first_mark : IsCutAt two_marks 2
first_mark = is_cut two_marks 2 refl refl

not_the_second : IsCutAt two_marks 20 → ⊥
not_the_second cut = cut.1 2 (lit< tt) first_mark.0

document_of_two : document_part two_marks 2 ≡ codes "{}"
document_of_two = refl

journal_of_two : journal_part two_marks 2 ≡ codes "1 table 1\njournal\nend\n"
journal_of_two = refl

-- both parts may be empty
bare_mark : IsCutAt (codes "\njournal\n") 0
bare_mark = is_cut (codes "\njournal\n") 0 refl refl

without_newline : HasNoCut (codes "{}\njournal")
without_newline = no_cut (codes "{}\njournal") refl

without_document : HasNoCut (codes "journal\nend moves=0 tables=0\n")
without_document = no_cut (codes "journal\nend moves=0 tables=0\n") refl

within_a_line : HasNoCut (codes "{}\nthe journal\nend moves=0 tables=0\n")
within_a_line = no_cut (codes "{}\nthe journal\nend moves=0 tables=0\n") refl

before_more_words : HasNoCut (codes "{}\njournal of T0\nend moves=0 tables=0\n")
before_more_words = no_cut (codes "{}\njournal of T0\nend moves=0 tables=0\n") refl
