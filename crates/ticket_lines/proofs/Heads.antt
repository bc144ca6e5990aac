-- One line more is merged, or there is none left.
use Rattle.std.proofs.Common.{◌≡◌, ◌≢◌, ℕ, zero, suc, ◌+◌, ◌-◌, ◌<◌, ◌≤◌, List, [], ◌∷◌, ◌++◌, length, drop, set, get_or, replicate, refl, sym, ap, ◌∙◌, subst, arith, append_assoc, append-nil, get_or-set_same, get_or-set_other, lt_of_not-le}
use mathlib.Core.Logic.{dite}
use native.Mathlib.Decide.{ℕ_discrete, dec_le}
use Rattle.rail_model.specs.declared.types.Line.{Line}
use Rattle.ticket_lines.specs.declared.tickets.TicketLine.{TicketLine}
use Rattle.ticket_lines.specs.Tickets.{Mark, all_lines, own_lines}
use Rattle.ticket_lines.specs.Merging.{Row, HasNext, IsLeast, IsMerged, Merges, bare}
use Rattle.ticket_lines.proofs.Next.{merges, none_left, none_of}

-- what is left of a list that has more
next_of : (xs : List TicketLine) (h : ℕ) (t : TicketLine) → h < length xs → drop h xs ≡ get_or xs h t ∷ drop (h + 1) xs
next_of [] h t lt = absurd (omega arith)
next_of (x ∷ xs) zero t lt = refl
next_of (x ∷ xs) (suc h) t lt =
    subst (λ k. drop h xs ≡ get_or xs h t ∷ drop k (x ∷ xs)) (let e : suc (h + 1) ≡ suc h + 1 = omega arith in e) (next_of xs h t (omega arith))

has_more : (xs rest : List TicketLine) (h : ℕ) (t d : TicketLine) → drop h xs ≡ t ∷ rest → (h < length xs) × (get_or xs h d ≡ t)
has_more [] rest zero t d e = absurd (cc e)
has_more [] rest (suc h) t d e = absurd (cc e)
has_more (x ∷ xs) rest zero t d e = (omega arith, cc e)
has_more (x ∷ xs) rest (suc h) t d e = let r = has_more xs rest h t d e in let lt = r.0 in (omega arith, r.1)

none_more : (xs : List TicketLine) (h : ℕ) → length xs ≤ h → drop h xs ≡ []
none_more [] zero le = refl
none_more [] (suc h) le = refl
none_more (x ∷ xs) zero le = absurd (omega arith)
none_more (x ∷ xs) (suc h) le = none_more xs h (omega arith)

pub zero_at : (n i : ℕ) → get_or {A = ℕ} (replicate {A = ℕ} n 0) i 0 ≡ 0
zero_at zero i = refl
zero_at (suc n) zero = refl
zero_at (suc n) (suc i) = zero_at n i

pub length_zeros : (n : ℕ) → length (replicate {A = ℕ} n 0) ≡ n
length_zeros zero = refl
length_zeros (suc n) = ap suc (length_zeros n)

-- how many lines aren't merged yet
abbrev pub left : List Row → List ℕ → ℕ
left [] heads = 0
left (row ∷ own) [] = 0
left (row ∷ own) (h ∷ heads) = length row.items - h + left own heads

pub left_less : (own : List Row) (heads : List ℕ) (p : ℕ) → length heads ≡ length own → HasNext own heads p → left own (set heads p (get_or heads p 0 + 1)) < left own heads
left_less [] heads p long next = let lt = next.0 in absurd (omega arith)
left_less (row ∷ own) [] p long next = absurd (omega arith)
left_less (row ∷ own) (h ∷ heads) zero long next = let lt : h < length row.items = next.1 row in omega arith
left_less (row ∷ own) (h ∷ heads) (suc p) long next =
    let lt : suc p < length (row ∷ own) = next.0 in
    let later = left_less own heads p (omega arith) (omega arith, next.1) in omega arith

any_default : (rows : List Row) (i : ℕ) (d e : Row) → i < length rows → get_or rows i d ≡ get_or rows i e
any_default [] i d e lt = absurd (omega arith)
any_default (x ∷ xs) zero d e lt = refl
any_default (x ∷ xs) (suc i) d e lt = any_default xs i d e (omega arith)

-- a list that has an index has a member
pub any_of : {A : Type 0} (xs : List A) (i : ℕ) → i < length xs → A
any_of [] i lt = absurd (omega arith)
any_of (x ∷ xs) i lt = x

module _ (own : List Row) (heads : List ℕ) (first lines : List Line) (marks : List Mark) (s : Merges own heads first lines marks) where
  pub ends : IsMerged own heads → lines ≡ first ++ bare (all_lines 0 marks)
  ends empty =
      let none : all_lines s.from s.rest ≡ [] = none_left (length own) s.from s.rest (λ p lt.
      let d : Row = any_of own p lt in
      sym (s.own_rest p d lt) ∙ none_more (get_or own p d).items (get_or heads p 0) (empty p d lt)) s.low in
      sym (append-nil lines) ∙ (ap (λ l. lines ++ bare l) (sym none) ∙ s.whole)

  module _ (p : ℕ) (d : Row) (t : TicketLine) (most : IsLeast own heads p) (long : length heads ≡ length own) where
    abbrev h : ℕ
    h = get_or heads p 0

    abbrev next : TicketLine
    next = get_or (get_or own p d).items h t

    pub goes : Merges own (set heads p (h + 1)) first (lines ++ next.line ∷ []) marks
    goes =
        let low_p = most.0.0 in
        let lt : h < length (get_or own p d).items = most.0.1 d in
        let is : own_lines p s.from s.rest ≡ next ∷ drop (h + 1) (get_or own p d).items = sym (s.own_rest p d low_p) ∙ next_of (get_or own p d).items h t lt in
        let n = merges p s.from next s.rest (drop (h + 1) (get_or own p d).items) is (λ q u rest e. dite (dec_le (length own) q)
        (λ (far : length own ≤ q). absurd (cc (sym (none_of (length own) q s.from s.rest far s.low) ∙ e)))
        (λ near.
        let near' : q < length own = lt_of_not-le near in
        let m = has_more (get_or own q d).items rest (get_or heads q 0) u t (s.own_rest q d near' ∙ e) in
        let less = most.1 q d t (near', λ d'. (has_more (get_or own q d').items rest (get_or heads q 0) u t (s.own_rest q d' near' ∙ e)).0) in
        let same = ap (λ (x : TicketLine). x.ticket) m.1 in omega arith)) in
        record {
          from = suc next.ticket;
          rest = n.after;
          whole = append_assoc lines (next.line ∷ []) (bare (all_lines (suc next.ticket) n.after)) ∙ (ap (λ l. lines ++ bare l) (sym n.line) ∙ s.whole);
          own_rest = λ q d' near. dite (ℕ_discrete q p)
              (λ (same : q ≡ p). subst (λ r. drop (get_or (set heads p (h + 1)) r 0) (get_or own r d').items ≡ own_lines r (suc next.ticket) n.after) (sym same)
              (ap (λ k. drop k (get_or own p d').items) (get_or-set_same heads p (h + 1) 0 (omega arith)) ∙ (ap (λ (x : Row). drop (h + 1) x.items) (any_default own p d' d low_p) ∙ sym n.own)))
              (λ (ne : q ≢ p). ap (λ k. drop k (get_or own q d').items) (get_or-set_other heads p q (h + 1) 0 ne) ∙ (s.own_rest q d' near ∙ sym (n.others q ne)));
          low = n.low (length own) s.low;
        }
