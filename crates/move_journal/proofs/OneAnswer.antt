-- A text has one journal, or one first fault.
use Rattle.std.proofs.Common.{◌≡◌, ℕ, ◌+◌, List, [], length, Result, Ok, Err, refl, sym, ap, ◌∙◌, arith, subst}
use Rattle.std.specs.List.{count_by}
use Rattle.std.proofs.lemmas.List.{append-nil}
use Rattle.rail_model.specs.declared.types.Line.{Line}
use Rattle.rail_model.specs.Names.{Names, IsNames}
use Rattle.rail_model.specs.Journal.{Journal, end_text, lines_text, is_move, is_table}
use Rattle.move_journal.specs.declared.faults.BadText.{BadText}
use Rattle.move_journal.specs.declared.faults.BadText.TheVariants.{Line as BadLine, Number, After, NoEnd, Memory}
use Rattle.move_journal.specs.declared.lines.Part.{Part}
use Rattle.move_journal.specs.declared.lines.Part.TheVariants.{Whole, Open}
use Rattle.move_journal.specs.Answers.{ReadsLines, HasTextFault, IsTextOf, IsFrontOf, IsTextPart, ReadsJournal, AnswersPrefix, GivesValue}
use Rattle.move_journal.proofs.Once.{Ending, bad, ended, Ends, same_front, same_ending}
use Rattle.move_journal.proofs.Fronts.{no_end}

-- a way to read the bytes
pub record Way (N : Names) (bytes : List ℕ) (lines : List Line) (e : Ending) : Type 0 where
  pub rest : List ℕ
  pub reads : ReadsLines N bytes lines rest
  pub ends : Ends N (length lines + 1) rest e

one_way : (N : Names) (bytes : List ℕ) (xs ys : List Line) (a b : Ending) → IsNames N → Way N bytes xs a → Way N bytes ys b → (xs ≡ ys) × (a ≡ b)
one_way N bytes xs ys a b names v w =
    let left : Ends N (1 + length xs) v.rest a = subst (λ k. Ends N k v.rest a) (let same : length xs + 1 ≡ 1 + length xs = omega arith in same) v.ends in
    let right : Ends N (1 + length ys) w.rest b = subst (λ k. Ends N k w.rest b) (let same : length ys + 1 ≡ 1 + length ys = omega arith in same) w.ends in
    let p = same_front N 1 xs ys v.rest w.rest a b names (omega (arith, v.reads.printable.few)) (omega (arith, w.reads.printable.few)) v.reads.printable.each w.reads.printable.each (sym v.reads.text ∙ w.reads.text) left right in (
      p.0,
      same_ending N (length xs + 1) v.rest a b names v.ends
          (subst (λ r. Ends N (length xs + 1) r b) (sym p.1) (subst (λ zs. Ends N (length zs + 1) w.rest b) (sym p.0) w.ends)),
    )

by_text : (N : Names) (bytes : List ℕ) (K : Journal) → IsTextOf N bytes K → Way N bytes K.lines (ended K.moves K.tables)
by_text N bytes K p = record {
  rest = end_text K.moves K.tables;
  reads = record { printable = p.has.lines; text = p.text };
  ends = record { few_moves = p.has.moves; few_tables = p.has.tables; text = sym (append-nil (end_text K.moves K.tables)) };
}

by_fault : (N : Names) (bytes : List ℕ) (e : BadText) (h : HasTextFault N bytes e) → Way N bytes h.0 (bad e)
by_fault N bytes e h = record { rest = h.1; reads = h.2; ends = h.3 }

by_front : (N : Names) (bytes : List ℕ) (K : Journal) → IsFrontOf N bytes K → Way N bytes K.lines (bad NoEnd)
by_front N bytes K p = record {
  rest = [];
  reads = record { printable = p.lines; text = p.text ∙ sym (append-nil (lines_text N 1 K.lines)) };
  ends = refl;
}

pub one_journal : (N : Names) (bytes : List ℕ) (K L : Journal) → IsNames N → IsTextOf N bytes K → IsTextOf N bytes L → K ≡ L
one_journal N bytes K L names p q =
    let w = one_way N bytes K.lines L.lines (ended K.moves K.tables) (ended L.moves L.tables) names (by_text N bytes K p) (by_text N bytes L q) in
    let lines : K.lines ≡ L.lines = w.0 in
    let ends : ended K.moves K.tables ≡ ended L.moves L.tables = w.1 in
    let moves : K.moves ≡ L.moves = cc in
    let tables : K.tables ≡ L.tables = cc in
    (λ i. record { lines = lines i; moves = moves i; tables = tables i })

pub one_fault : (N : Names) (bytes : List ℕ) (e f : BadText) → IsNames N → HasTextFault N bytes e → HasTextFault N bytes f → e ≡ f
one_fault N bytes e f names p q =
    let w = one_way N bytes p.0 q.0 (bad e) (bad f) names (by_fault N bytes e p) (by_fault N bytes f q) in
    let ends : bad e ≡ bad f = w.1 in
    cc

pub text_or_fault : (N : Names) (bytes : List ℕ) (K : Journal) (e : BadText) → IsNames N → IsTextOf N bytes K → HasTextFault N bytes e → ⊥
text_or_fault N bytes K e names p q =
    let w = one_way N bytes K.lines q.0 (ended K.moves K.tables) (bad e) names (by_text N bytes K p) (by_fault N bytes e q) in
    let ends : ended K.moves K.tables ≡ bad e = w.1 in
    absurd cc

pub one_front : (N : Names) (bytes : List ℕ) (K L : Journal) → IsNames N → IsFrontOf N bytes K → IsFrontOf N bytes L → K ≡ L
one_front N bytes K L names p q =
    let w = one_way N bytes K.lines L.lines (bad NoEnd) (bad NoEnd) names (by_front N bytes K p) (by_front N bytes L q) in
    let lines : K.lines ≡ L.lines = w.0 in
    let moves : K.moves ≡ L.moves = p.counts.0 ∙ ap (count_by is_move) lines ∙ sym q.counts.0 in
    let tables : K.tables ≡ L.tables = p.counts.1 ∙ ap (count_by is_table) lines ∙ sym q.counts.1 in
    (λ i. record { lines = lines i; moves = moves i; tables = tables i })

-- what an answer other than out of memory says
fault_of : (N : Names) (bytes : List ℕ) (e : BadText) → (e ≡ Memory → ⊥) → ReadsJournal N bytes (Err e) → HasTextFault N bytes e
fault_of N bytes (BadLine j) h a = a
fault_of N bytes (Number j) h a = a
fault_of N bytes After h a = a
fault_of N bytes NoEnd h a = a
fault_of N bytes Memory h a = absurd (h refl)

pub one_answer : (N : Names) (bytes : List ℕ) (a b : Result Journal BadText) → IsNames N → (a ≡ Err Memory → ⊥) → (b ≡ Err Memory → ⊥) → ReadsJournal N bytes a → ReadsJournal N bytes b → a ≡ b
one_answer N bytes (Ok K) (Ok L) names m n p q = ap Ok (one_journal N bytes K L names p q)
one_answer N bytes (Ok K) (Err f) names m n p q = absurd (text_or_fault N bytes K f names p (fault_of N bytes f (λ e. n (ap Err e)) q))
one_answer N bytes (Err e) (Ok L) names m n p q = absurd (text_or_fault N bytes L e names q (fault_of N bytes e (λ f. m (ap Err f)) p))
one_answer N bytes (Err e) (Err f) names m n p q = ap Err (one_fault N bytes e f names (fault_of N bytes e (λ g. m (ap Err g)) p) (fault_of N bytes f (λ g. n (ap Err g)) q))

prefix_fault : (N : Names) (bytes : List ℕ) (e : BadText) → (e ≡ Memory → ⊥) → AnswersPrefix N bytes (Err e) → HasTextFault N bytes e × (e ≡ NoEnd → ⊥)
prefix_fault N bytes (BadLine j) h a = (a, λ e. absurd cc)
prefix_fault N bytes (Number j) h a = (a, λ e. absurd cc)
prefix_fault N bytes After h a = (a, λ e. absurd cc)
prefix_fault N bytes NoEnd h a = absurd a
prefix_fault N bytes Memory h a = absurd (h refl)

front_or_fault : (N : Names) (bytes : List ℕ) (K : Journal) (e : BadText) → IsNames N → IsFrontOf N bytes K → HasTextFault N bytes e → (e ≡ NoEnd → ⊥) → ⊥
front_or_fault N bytes K e names p q ne = ne (sym (one_fault N bytes NoEnd e names (no_end N bytes K p) q))

part_or_fault : (N : Names) (bytes : List ℕ) (part : Part) (e : BadText) → IsNames N → AnswersPrefix N bytes (Ok part) → (e ≡ Memory → ⊥) → AnswersPrefix N bytes (Err e) → ⊥
part_or_fault N bytes (Whole K) e names p m q = text_or_fault N bytes K e names p (prefix_fault N bytes e m q).0
part_or_fault N bytes (Open K) e names p m q = front_or_fault N bytes K e names p (prefix_fault N bytes e m q).0 (prefix_fault N bytes e m q).1

one_part : (N : Names) (bytes : List ℕ) (a b : Part) → IsNames N → AnswersPrefix N bytes (Ok a) → AnswersPrefix N bytes (Ok b) → a ≡ b
one_part N bytes (Whole K) (Whole L) names p q = ap Whole (one_journal N bytes K L names p q)
one_part N bytes (Whole K) (Open L) names p q = absurd (text_or_fault N bytes K NoEnd names p (no_end N bytes L q))
one_part N bytes (Open K) (Whole L) names p q = absurd (text_or_fault N bytes L NoEnd names q (no_end N bytes K p))
one_part N bytes (Open K) (Open L) names p q = ap Open (one_front N bytes K L names p q)

pub one_prefix : (N : Names) (bytes : List ℕ) (a b : Result Part BadText) → IsNames N → (a ≡ Err Memory → ⊥) → (b ≡ Err Memory → ⊥) → AnswersPrefix N bytes a → AnswersPrefix N bytes b → a ≡ b
one_prefix N bytes (Ok a) (Ok b) names m n p q = ap Ok (one_part N bytes a b names p q)
one_prefix N bytes (Ok a) (Err f) names m n p q = absurd (part_or_fault N bytes a f names p (λ e. n (ap Err e)) q)
one_prefix N bytes (Err e) (Ok b) names m n p q = absurd (part_or_fault N bytes b e names q (λ g. m (ap Err g)) p)
one_prefix N bytes (Err e) (Err f) names m n p q = ap Err (one_fault N bytes e f names (prefix_fault N bytes e (λ g. m (ap Err g)) p).0 (prefix_fault N bytes f (λ g. n (ap Err g)) q).0)

pub gives : (N : Names) (bytes : List ℕ) (K : Journal) (r : Result Journal BadText) → IsNames N → IsTextOf N bytes K → ReadsJournal N bytes r → GivesValue K r
gives N bytes K (Ok L) names p q = one_journal N bytes L K names q p
gives N bytes K (Err (BadLine j)) names p q = text_or_fault N bytes K (BadLine j) names p q
gives N bytes K (Err (Number j)) names p q = text_or_fault N bytes K (Number j) names p q
gives N bytes K (Err After) names p q = text_or_fault N bytes K After names p q
gives N bytes K (Err NoEnd) names p q = text_or_fault N bytes K NoEnd names p q
gives N bytes K (Err Memory) names p q = tt

pub gives_part : (N : Names) (bytes : List ℕ) (part : Part) (r : Result Part BadText) → IsNames N → IsTextPart N bytes part → AnswersPrefix N bytes r → GivesValue part r
gives_part N bytes part (Ok other) names p q = one_part N bytes other part names q p
gives_part N bytes part (Err (BadLine j)) names p q = part_or_fault N bytes part (BadLine j) names p (λ e. absurd cc) q
gives_part N bytes part (Err (Number j)) names p q = part_or_fault N bytes part (Number j) names p (λ e. absurd cc) q
gives_part N bytes part (Err After) names p q = part_or_fault N bytes part After names p (λ e. absurd cc) q
gives_part N bytes part (Err NoEnd) names p q = absurd q
gives_part N bytes part (Err Memory) names p q = tt
