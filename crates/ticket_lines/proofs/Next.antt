-- The least ticket among the passes' first lines is the next line of all.
use Rattle.std.proofs.Common.{◌≡◌, ◌≢◌, ℕ, suc, ◌<◌, ◌≤◌, List, [], ◌∷◌, ◌++◌, All, Option, Some, None, refl, sym, ap, ◌∙◌, arith}
use mathlib.Core.Logic.{dite}
use native.Mathlib.Decide.{ℕ_discrete}
use Rattle.rail_model.specs.declared.types.Line.{Line}
use Rattle.ticket_lines.specs.declared.tickets.TicketLine.{TicketLine}
use Rattle.ticket_lines.specs.Tickets.{Mark, at_ticket, all_lines, own_lines}
use Rattle.ticket_lines.proofs.Histories.{own_here, own_else}

-- each of these marks is of a pass below n
abbrev pub Low : ℕ → List Mark → Type 0
Low n ms = All (λ (m : Mark). m.who < n) ms

low_tail : (n : ℕ) (m : Mark) (ms : List Mark) → Low n (m ∷ ms) → Low n ms
low_tail n m ms h = λ j d lt. h (suc j) d (omega arith)

-- a mark without a line adds none
skipped : (p k : ℕ) (m : Mark) (ms : List Mark) → m.line ≡ None → own_lines p k (m ∷ ms) ≡ own_lines p (suc k) ms
skipped p k m ms none = dite (ℕ_discrete p m.who)
    (λ same. own_here p k m ms same ∙ ap (λ o. at_ticket k o ++ own_lines p (suc k) ms) none)
    (λ ne. own_else p k m ms ne)

-- a line of the pass is its first one
put_first : (p k : ℕ) (m : Mark) (ms : List Mark) (line : Line) → p ≡ m.who → m.line ≡ Some line
    → own_lines p k (m ∷ ms) ≡ record { ticket = k; line = line } ∷ own_lines p (suc k) ms
put_first p k m ms line same one = own_here p k m ms same ∙ ap (λ o. at_ticket k o ++ own_lines p (suc k) ms) one

-- tickets are no less than where the marks begin
least : (p k : ℕ) (t : TicketLine) (ms : List Mark) (rest : List TicketLine) → own_lines p k ms ≡ t ∷ rest → k ≤ t.ticket
least p k t [] rest e = absurd (cc e)
least p k t (m ∷ ms) rest is = dite (ℕ_discrete p m.who)
    (λ same. first m.line (sym (own_here p k m ms same) ∙ is) (least p (suc k) t ms rest))
    (λ ne. let more = least p (suc k) t ms rest (sym (own_else p k m ms ne) ∙ is) in omega arith)
  where
    first : (o : Option Line) → at_ticket k o ++ own_lines p (suc k) ms ≡ t ∷ rest → (own_lines p (suc k) ms ≡ t ∷ rest → suc k ≤ t.ticket) → k ≤ t.ticket
    first None is more = let x = more is in omega arith
    first (Some line) is more = let one : record { ticket = k; line = line } ≡ t = cc is in let e : k ≡ t.ticket = ap (λ (x : TicketLine). x.ticket) one in omega arith

-- the next line of all is t, and then marks are left in which the pass p has the rest
pub record Next (p k : ℕ) (t : TicketLine) (ms : List Mark) (rest : List TicketLine) : Type 0 where
  pub after : List Mark
  pub line : all_lines k ms ≡ t ∷ all_lines (suc t.ticket) after
  pub own : own_lines p (suc t.ticket) after ≡ rest
  pub others : (q : ℕ) → q ≢ p → own_lines q (suc t.ticket) after ≡ own_lines q k ms
  pub low : (n : ℕ) → Low n ms → Low n after

-- of the pass whose first ticket is the least, that line is the next
pub merges : (p k : ℕ) (t : TicketLine) (ms : List Mark) (rest : List TicketLine) → own_lines p k ms ≡ t ∷ rest
    → ((q : ℕ) (u : TicketLine) (more : List TicketLine) → own_lines q k ms ≡ u ∷ more → t.ticket ≤ u.ticket) → Next p k t ms rest
merges p k t [] rest is least_of = absurd (cc is)
merges p k t (m ∷ ms) rest is least_of = by_line m.line refl (merges p (suc k) t ms rest)
  where
    by_line : (o : Option Line) → m.line ≡ o
        → (own_lines p (suc k) ms ≡ t ∷ rest → ((q : ℕ) (u : TicketLine) (more : List TicketLine) → own_lines q (suc k) ms ≡ u ∷ more → t.ticket ≤ u.ticket) → Next p (suc k) t ms rest)
        → Next p k t (m ∷ ms) rest
    by_line None none later =
        let n = later (sym (skipped p k m ms none) ∙ is) (λ q u more e. least_of q u more (skipped q k m ms none ∙ e)) in
        record {
          after = n.after;
          line = ap (λ o. at_ticket k o ++ all_lines (suc k) ms) none ∙ n.line;
          own = n.own;
          others = λ q ne. n.others q ne ∙ sym (skipped q k m ms none);
          low = λ j h. n.low j (low_tail j m ms h);
        }
    by_line (Some line) one later = dite (ℕ_discrete p m.who)
        (λ (same : p ≡ m.who).
        let now : record { ticket = k; line = line } ∷ own_lines p (suc k) ms ≡ t ∷ rest = sym (put_first p k m ms line same one) ∙ is in
        let first : record { ticket = k; line = line } ≡ t = cc now in
        let at : k ≡ t.ticket = ap (λ (x : TicketLine). x.ticket) first in
        let next : own_lines p (suc k) ms ≡ rest = cc now in
        record {
          after = ms;
          line = ap (λ o. at_ticket k o ++ all_lines (suc k) ms) one ∙ (λ i. first i ∷ all_lines (suc (at i)) ms);
          own = ap (λ j. own_lines p (suc j) ms) (sym at) ∙ next;
          others = λ q ne. ap (λ j. own_lines q (suc j) ms) (sym at) ∙ sym (own_else q k m ms (λ e. ne (e ∙ sym same)));
          low = λ n h. low_tail n m ms h;
        })
        (λ (ne : p ≢ m.who).
        let far = least p (suc k) t ms rest (sym (own_else p k m ms ne) ∙ is) in
        let near : t.ticket ≤ k = least_of m.who (record { ticket = k; line = line }) (own_lines m.who (suc k) ms) (put_first m.who k m ms line refl one) in
        absurd (omega arith))

-- where no pass has a line left, there is none
pub none_left : (n k : ℕ) (ms : List Mark) → ((p : ℕ) → p < n → own_lines p k ms ≡ []) → Low n ms → all_lines k ms ≡ []
none_left n k [] none low = refl
none_left n k (m ∷ ms) none low = by_line m.line refl (λ h. none_left n (suc k) ms h (low_tail n m ms low))
  where
    by_line : (o : Option Line) → m.line ≡ o → (((p : ℕ) → p < n → own_lines p (suc k) ms ≡ []) → all_lines (suc k) ms ≡ []) → all_lines k (m ∷ ms) ≡ []
    by_line None is later = ap (λ o. at_ticket k o ++ all_lines (suc k) ms) is ∙ later (λ p lt. sym (skipped p k m ms is) ∙ none p lt)
    by_line (Some line) is later = absurd (cc (sym (put_first m.who k m ms line refl is) ∙ none m.who (low 0 m (omega arith))))

-- a pass that is none has no line
pub none_of : (n q k : ℕ) (ms : List Mark) → n ≤ q → Low n ms → own_lines q k ms ≡ []
none_of n q k [] le low = refl
none_of n q k (m ∷ ms) le low =
    let one = low 0 m (omega arith) in
    own_else q k m ms (λ e. omega arith) ∙ none_of n q (suc k) ms le (low_tail n m ms low)
