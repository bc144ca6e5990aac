-- A text is read in one way.
use Rattle.std.proofs.Common.{◌≡◌, ℕ, ◌+◌, ◌<◌, ◌^◌, List, [], ◌∷◌, ◌++◌, length, None, refl, sym, ap, ◌∙◌, codes, decimal, arith, subst, length-append}
use Rattle.std.specs.List.{All}
use Rattle.std.proofs.lemmas.List.{append_assoc}
use Rattle.std.proofs.lemmas.Option.{none-some, same_Some}
use Rattle.std.proofs.lemmas.List.Elements.{All-head, All-tail}
use Rattle.rail_model.specs.declared.types.Line.{Line}
use Rattle.rail_model.specs.Names.{Names, IsNames}
use Rattle.rail_model.specs.Journal.{words, lines_text}
use Rattle.move_journal.specs.declared.faults.BadText.{BadText}
use Rattle.move_journal.specs.declared.faults.BadText.TheVariants.{Line as BadLine, Number, After, NoEnd, Memory}
use Rattle.move_journal.specs.Printable.{IsPrintable}
use Rattle.move_journal.specs.Answers.{BeginsWithLine, BeginsWithEnd, Stops}
use Rattle.decimal_number.specs.Decimal.{number_of}
use Rattle.move_journal.specs.Words.{word_list, numbered_of, end_of}
use Rattle.move_journal.proofs.Forms.{end_content, end_words}
use Rattle.move_journal.proofs.Again.{numbered_again, end_again, line-one_line, end-one_line, cut_once, end_split}
use Rattle.move_journal.proofs.Begins.{line_cut, end_cut}
use Rattle.move_journal.proofs.Fronts.{line_shorter}

-- the same bytes begin with one line
same_line : (N : Names) (rest : List ℕ) (m n : ℕ) (k l : Line) (x y : List ℕ) → IsNames N → BeginsWithLine N rest m k x → BeginsWithLine N rest n l y → (m ≡ n) × (k ≡ l) × (x ≡ y)
same_line N rest m n k l x y names a b =
    let cut = cut_once (decimal m ++ words N k) (decimal n ++ words N l) x y (line-one_line N m k names a.number a.line) (line-one_line N n l names b.number b.line)
    (sym (line_cut N rest m k x a) ∙ line_cut N rest n l y b) in
    let pair = same_Some {A = ℕ × Line} (m, k) (n, l) (sym (numbered_again N m k names a.number a.line) ∙ ap (λ c. numbered_of N (word_list c)) cut.0 ∙ numbered_again N n l names b.number b.line) in
    (ap (λ (p : ℕ × Line). p.0) pair, ap (λ (p : ℕ × Line). p.1) pair, cut.1)

same_end : (rest : List ℕ) (m n t u : ℕ) (x y : List ℕ) → BeginsWithEnd rest m t x → BeginsWithEnd rest n u y → (m ≡ n) × (t ≡ u) × (x ≡ y)
same_end rest m n t u x y a b =
    let cut = cut_once (end_content m t) (end_content n u) x y (end-one_line m t a.few_moves a.few_tables) (end-one_line n u b.few_moves b.few_tables)
    (sym (end_cut rest m t x a) ∙ end_cut rest n u y b) in
    let pair = same_Some {A = ℕ × ℕ} (m, t) (n, u) (sym (end_again m t a.few_moves a.few_tables) ∙ ap (λ c. end_of (word_list c)) cut.0 ∙ end_again n u b.few_moves b.few_tables) in
    (ap (λ (p : ℕ × ℕ). p.0) pair, ap (λ (p : ℕ × ℕ). p.1) pair, cut.1)

-- an end line has no number
no_number : (N : Names) (m t : ℕ) → numbered_of N (end_words m t) ≡ None
unfolding numbered_of number_of
no_number N m t = refl

not_both : (N : Names) (rest : List ℕ) (n : ℕ) (l : Line) (x : List ℕ) (m t : ℕ) (y : List ℕ) → IsNames N → BeginsWithLine N rest n l x → BeginsWithEnd rest m t y → ⊥
not_both N rest n l x m t y names a b =
    let cut = cut_once (decimal n ++ words N l) (end_content m t) x y (line-one_line N n l names a.number a.line) (end-one_line m t b.few_moves b.few_tables)
    (sym (line_cut N rest n l x a) ∙ end_cut rest m t y b) in
    none-some (n, l) (sym (no_number N m t) ∙ sym (ap (numbered_of N) (end_split m t b.few_moves b.few_tables)) ∙ sym (ap (λ c. numbered_of N (word_list c)) cut.0) ∙ numbered_again N n l names a.number a.line)

end_longer : (rest : List ℕ) (m t : ℕ) (y : List ℕ) → BeginsWithEnd rest m t y → length rest ≡ 0 → ⊥
end_longer rest m t y b e = omega (arith, ap length (end_cut rest m t y b), length-append (end_content m t) (10 ∷ y))

line_longer : (N : Names) (rest : List ℕ) (n : ℕ) (l : Line) (x : List ℕ) → BeginsWithLine N rest n l x → length rest ≡ 0 → ⊥
line_longer N rest n l x b e = omega (arith, line_shorter N rest n l x b)

-- how the rest goes on where the line k is wanted: by a fault, or by the last line
pub data Ending : Type 0 where
  bad : BadText → Ending
  ended : ℕ → ℕ → Ending

abbrev pub Ends : Names → ℕ → List ℕ → Ending → Type 0
Ends N k rest (bad e) = Stops N k rest e
Ends N k rest (ended m t) = BeginsWithEnd rest m t []

-- where there is a right line, reading goes on
goes_on : (N : Names) (k : ℕ) (rest : List ℕ) (l : Line) (later : List ℕ) (e : Ending) → IsNames N → BeginsWithLine N rest k l later → Ends N k rest e → ⊥
goes_on N k rest l later (bad (BadLine j)) names b h = h.2.no_line k l later b
goes_on N k rest l later (bad (Number j)) names b h = h.1.4 (sym (same_line N rest k h.1.0 l h.1.1 later h.1.2 names b h.1.3).0)
goes_on N k rest l later (bad After) names b h = not_both N rest k l later h.0 h.1 h.2 names b h.3
goes_on N k rest l later (bad NoEnd) names b h = line_longer N rest k l later b h
goes_on N k rest l later (bad Memory) names b h = h
goes_on N k rest l later (ended m t) names b h = not_both N rest k l later m t [] names b h

first_line : (N : Names) (k : ℕ) (l : Line) (later more : List ℕ) → k < 2 ^ 32 → IsPrintable N l → BeginsWithLine N ((decimal k ++ words N l ++ codes "\n" ++ later) ++ more) k l (later ++ more)
first_line N k l later more small h = record { number = small; line = h; text = append_assoc (decimal k ++ words N l ++ codes "\n") later more }

-- two ways to read the same bytes read the same lines
pub same_front : (N : Names) (k : ℕ) (xs ys : List Line) (r s : List ℕ) (a b : Ending) → IsNames N
    → k + length xs < 2 ^ 32 + 1 → k + length ys < 2 ^ 32 + 1 → All (IsPrintable N) xs → All (IsPrintable N) ys
    → lines_text N k xs ++ r ≡ lines_text N k ys ++ s → Ends N (k + length xs) r a → Ends N (k + length ys) s b → (xs ≡ ys) × (r ≡ s)
same_front N k [] [] r s a b names c d p q e f g = (refl, e)
same_front N k [] (y ∷ ys) r s a b names c d p q e f g =
    let line : BeginsWithLine N ((decimal k ++ words N y ++ codes "\n" ++ lines_text N (k + 1) ys) ++ s) k y (lines_text N (k + 1) ys ++ s) =
    first_line N k y (lines_text N (k + 1) ys) s (omega arith) (All-head (IsPrintable N) y ys q) in
    absurd (goes_on N k r y (lines_text N (k + 1) ys ++ s) a names (subst (λ t. BeginsWithLine N t k y (lines_text N (k + 1) ys ++ s)) (sym e) line)
    (subst (λ j. Ends N j r a) (let same : k + 0 ≡ k = omega arith in same) f))
same_front N k (x ∷ xs) [] r s a b names c d p q e f g =
    let line : BeginsWithLine N ((decimal k ++ words N x ++ codes "\n" ++ lines_text N (k + 1) xs) ++ r) k x (lines_text N (k + 1) xs ++ r) =
    first_line N k x (lines_text N (k + 1) xs) r (omega arith) (All-head (IsPrintable N) x xs p) in
    absurd (goes_on N k s x (lines_text N (k + 1) xs ++ r) b names (subst (λ t. BeginsWithLine N t k x (lines_text N (k + 1) xs ++ r)) e line)
    (subst (λ j. Ends N j s b) (let same : k + 0 ≡ k = omega arith in same) g))
same_front N k (x ∷ xs) (y ∷ ys) r s a b names c d p q e f g =
    let left : BeginsWithLine N ((decimal k ++ words N x ++ codes "\n" ++ lines_text N (k + 1) xs) ++ r) k x (lines_text N (k + 1) xs ++ r) =
    first_line N k x (lines_text N (k + 1) xs) r (omega arith) (All-head (IsPrintable N) x xs p) in
    let right : BeginsWithLine N ((decimal k ++ words N y ++ codes "\n" ++ lines_text N (k + 1) ys) ++ s) k y (lines_text N (k + 1) ys ++ s) =
    first_line N k y (lines_text N (k + 1) ys) s (omega arith) (All-head (IsPrintable N) y ys q) in
    let same = same_line N ((decimal k ++ words N y ++ codes "\n" ++ lines_text N (k + 1) ys) ++ s) k k x y (lines_text N (k + 1) xs ++ r) (lines_text N (k + 1) ys ++ s) names
    (subst (λ t. BeginsWithLine N t k x (lines_text N (k + 1) xs ++ r)) e left) right in
    let over : k + length (x ∷ xs) ≡ k + 1 + length xs = omega arith in
    let more : k + length (y ∷ ys) ≡ k + 1 + length ys = omega arith in
    let rest = same_front N (k + 1) xs ys r s a b names (omega arith) (omega arith) (All-tail (IsPrintable N) x xs p) (All-tail (IsPrintable N) y ys q) same.2
    (subst (λ j. Ends N j r a) over f) (subst (λ j. Ends N j s b) more g) in
    let heads : x ≡ y = same.1 in
    let tails : xs ≡ ys = rest.0 in
    (cc, rest.1)

pub same_ending : (N : Names) (k : ℕ) (r : List ℕ) (a b : Ending) → IsNames N → Ends N k r a → Ends N k r b → a ≡ b
same_ending N k r (bad (BadLine j)) (bad (BadLine l)) names h g = ap (λ x. bad (BadLine x)) (h.0 ∙ sym g.0)
same_ending N k r (bad (BadLine j)) (bad (Number l)) names h g = absurd (h.2.no_line g.1.0 g.1.1 g.1.2 g.1.3)
same_ending N k r (bad (BadLine j)) (bad After) names h g = absurd (h.2.no_end g.0 g.1 g.2 g.3)
same_ending N k r (bad (BadLine j)) (bad NoEnd) names h g = absurd (omega (arith, h.1, g))
same_ending N k r (bad (BadLine j)) (bad Memory) names h g = absurd g
same_ending N k r (bad (BadLine j)) (ended n u) names h g = absurd (h.2.no_end n u [] g)
same_ending N k r (bad (Number j)) (bad (BadLine l)) names h g = absurd (g.2.no_line h.1.0 h.1.1 h.1.2 h.1.3)
same_ending N k r (bad (Number j)) (bad (Number l)) names h g = ap (λ x. bad (Number x)) (h.0 ∙ sym g.0)
same_ending N k r (bad (Number j)) (bad After) names h g = absurd (not_both N r h.1.0 h.1.1 h.1.2 g.0 g.1 g.2 names h.1.3 g.3)
same_ending N k r (bad (Number j)) (bad NoEnd) names h g = absurd (line_longer N r h.1.0 h.1.1 h.1.2 h.1.3 g)
same_ending N k r (bad (Number j)) (bad Memory) names h g = absurd g
same_ending N k r (bad (Number j)) (ended n u) names h g = absurd (not_both N r h.1.0 h.1.1 h.1.2 n u [] names h.1.3 g)
same_ending N k r (bad After) (bad (BadLine l)) names h g = absurd (g.2.no_end h.0 h.1 h.2 h.3)
same_ending N k r (bad After) (bad (Number l)) names h g = absurd (not_both N r g.1.0 g.1.1 g.1.2 h.0 h.1 h.2 names g.1.3 h.3)
same_ending N k r (bad After) (bad After) names h g = refl
same_ending N k r (bad After) (bad NoEnd) names h g = absurd (end_longer r h.0 h.1 h.2 h.3 g)
same_ending N k r (bad After) (bad Memory) names h g = absurd g
same_ending N k r (bad After) (ended n u) names h g = absurd (omega (arith, h.4, ap length (same_end r h.0 n h.1 u h.2 [] h.3 g).2))
same_ending N k r (bad NoEnd) (bad (BadLine l)) names h g = absurd (omega (arith, g.1, h))
same_ending N k r (bad NoEnd) (bad (Number l)) names h g = absurd (line_longer N r g.1.0 g.1.1 g.1.2 g.1.3 h)
same_ending N k r (bad NoEnd) (bad After) names h g = absurd (end_longer r g.0 g.1 g.2 g.3 h)
same_ending N k r (bad NoEnd) (bad NoEnd) names h g = refl
same_ending N k r (bad NoEnd) (bad Memory) names h g = absurd g
same_ending N k r (bad NoEnd) (ended n u) names h g = absurd (end_longer r n u [] g h)
same_ending N k r (bad Memory) (bad (BadLine l)) names h g = absurd h
same_ending N k r (bad Memory) (bad (Number l)) names h g = absurd h
same_ending N k r (bad Memory) (bad After) names h g = absurd h
same_ending N k r (bad Memory) (bad NoEnd) names h g = absurd h
same_ending N k r (bad Memory) (bad Memory) names h g = absurd h
same_ending N k r (bad Memory) (ended n u) names h g = absurd h
same_ending N k r (ended m t) (bad (BadLine l)) names h g = absurd (g.2.no_end m t [] h)
same_ending N k r (ended m t) (bad (Number l)) names h g = absurd (not_both N r g.1.0 g.1.1 g.1.2 m t [] names g.1.3 h)
same_ending N k r (ended m t) (bad After) names h g = absurd (omega (arith, g.4, ap length (same_end r g.0 m g.1 t g.2 [] g.3 h).2))
same_ending N k r (ended m t) (bad NoEnd) names h g = absurd (end_longer r m t [] h g)
same_ending N k r (ended m t) (bad Memory) names h g = absurd g
same_ending N k r (ended m t) (ended n u) names h g = (let same = same_end r m n t u [] [] h g in let ms : m ≡ n = same.0 in let ts : t ≡ u = same.1 in cc)
