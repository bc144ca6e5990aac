-- Marks and lines of a history and of its parts.
use Rattle.std.proofs.Common.{◌≡◌, ◌≢◌, ℕ, suc, ◌+◌, ◌<◌, List, [], ◌∷◌, ◌++◌, length, All, Option, Some, None, refl, sym, ap, ◌∙◌, arith, eq-eqb, ne_eqb}
use Rattle.std.proofs.lemmas.List.{append_assoc}
use Rattle.std.proofs.lemmas.List.Elements.{All-cons, All-head, All-tail}
use Rattle.std.specs.Prelude.{option_to_list}
use mathlib.Core.Logic.{dite}
use native.Mathlib.Decide.{ℕ_discrete}
use Rattle.rail_model.specs.declared.types.Entry.{Entry}
use Rattle.rail_model.specs.declared.types.Line.{Line}
use Rattle.rail_model.specs.Lines.{line_of, journal_of}
use Rattle.rail_model.specs.Yard.{Offer, Yard, after, after_entry}
use Rattle.ticket_lines.specs.declared.tickets.TicketLine.{TicketLine}
use Rattle.ticket_lines.specs.Tickets.{Mark, marks_of, at_ticket, all_lines, own_lines, lines_of, AreOf}
use Rattle.ticket_lines.specs.Merging.{bare}

-- a mark of the pass puts its line first
pub own_here : (p k : ℕ) (m : Mark) (ms : List Mark) → p ≡ m.who → own_lines p k (m ∷ ms) ≡ at_ticket k m.line ++ own_lines p (suc k) ms
own_here p k m ms same = rw (eq-eqb p m.who same) refl

-- a mark of another pass adds nothing
pub own_else : (p k : ℕ) (m : Mark) (ms : List Mark) → p ≢ m.who → own_lines p k (m ∷ ms) ≡ own_lines p (suc k) ms
own_else p k m ms ne = rw (ne_eqb p m.who ne) refl

pub own_parts : (p k n : ℕ) (ms more : List Mark) → n ≡ k + length ms → own_lines p k (ms ++ more) ≡ own_lines p k ms ++ own_lines p n more
own_parts p k n [] more is = ap (λ j. own_lines p j more) (let e : k ≡ n = omega arith in e)
own_parts p k n (m ∷ ms) more is = go (own_parts p (suc k) n ms more (omega arith))
  where
    go : own_lines p (suc k) (ms ++ more) ≡ own_lines p (suc k) ms ++ own_lines p n more → own_lines p k (m ∷ ms ++ more) ≡ own_lines p k (m ∷ ms) ++ own_lines p n more
    go later = dite (ℕ_discrete p m.who)
        (λ same. own_here p k m (ms ++ more) same ∙ (ap (λ ls. at_ticket k m.line ++ ls) later
        ∙ (sym (append_assoc (at_ticket k m.line) (own_lines p (suc k) ms) (own_lines p n more)) ∙ ap (λ ls. ls ++ own_lines p n more) (sym (own_here p k m ms same)))))
        (λ ne. own_else p k m (ms ++ more) ne ∙ (later ∙ ap (λ ls. ls ++ own_lines p n more) (sym (own_else p k m ms ne))))

pub marks_parts : (tables : List Offer) (y : Yard) (H added : List Entry) → marks_of tables y (H ++ added) ≡ marks_of tables y H ++ marks_of tables (after y H) added
marks_parts tables y [] added = refl
marks_parts tables y (e ∷ H) added = ap (λ ms. record { who = e.who; line = line_of tables y e } ∷ ms) (marks_parts tables (after_entry y e) H added)

pub marks_length : (tables : List Offer) (y : Yard) (H : List Entry) → length (marks_of tables y H) ≡ length H
marks_length tables y [] = refl
marks_length tables y (e ∷ H) = ap suc (marks_length tables (after_entry y e) H)

pub own_lines_go_on : (tables : List Offer) (y : Yard) (p : ℕ) (H added : List Entry)
    → lines_of tables y p (H ++ added) ≡ lines_of tables y p H ++ own_lines p (length H) (marks_of tables (after y H) added)
own_lines_go_on tables y p H added =
    ap (own_lines p 0) (marks_parts tables y H added)
    ∙ own_parts p 0 (length H) (marks_of tables y H) (marks_of tables (after y H) added) (let e = marks_length tables y H in omega arith)

-- a line, if there is one, without its ticket
bare_at : (k : ℕ) (line : Option Line) (rest : List TicketLine) → bare (at_ticket k line ++ rest) ≡ option_to_list line ++ bare rest
bare_at k None rest = refl
bare_at k (Some line) rest = refl

pub bare_journal : (tables : List Offer) (y : Yard) (k : ℕ) (H : List Entry) → bare (all_lines k (marks_of tables y H)) ≡ journal_of tables y H
bare_journal tables y k [] = refl
bare_journal tables y k (e ∷ H) =
    let later = marks_of tables (after_entry y e) H in
    bare_at k (line_of tables y e) (all_lines (suc k) later) ∙ ap (λ ls. option_to_list (line_of tables y e) ++ ls) (bare_journal tables (after_entry y e) (suc k) H)

-- the marks are of the passes that the entries are of
pub marks_low : (tables : List Offer) (y : Yard) (n : ℕ) (H : List Entry) → AreOf n H → All (λ (m : Mark). m.who < n) (marks_of tables y H)
marks_low tables y n [] low = λ j d lt. absurd (omega arith)
marks_low tables y n (e ∷ H) low = All-cons (λ (m : Mark). m.who < n) (record { who = e.who; line = line_of tables y e }) (marks_of tables (after_entry y e) H)
    (All-head (λ (x : Entry). x.who < n) e H low)
    (marks_low tables (after_entry y e) n H (All-tail (λ (x : Entry). x.who < n) e H low))

-- entries of others alone add no line
pub silent : (tables : List Offer) (y : Yard) (p k : ℕ) (H : List Entry) → All (λ (e : Entry). p ≢ e.who) H → own_lines p k (marks_of tables y H) ≡ []
silent tables y p k [] others = refl
silent tables y p k (e ∷ H) others =
    own_else p k (record { who = e.who; line = line_of tables y e }) (marks_of tables (after_entry y e) H) (All-head (λ (x : Entry). p ≢ x.who) e H others)
    ∙ silent tables (after_entry y e) p (suc k) H (All-tail (λ (x : Entry). p ≢ x.who) e H others)
