-- Histories: their journals, their parts, and the moves that they make.
use Rattle.std.proofs.Common.{◌≡◌, ℕ, ◌+◌, ◌<◌, List, [], ◌∷◌, ◌++◌, length, set, get_or, refl, sym, ap, ◌∙◌, arith}
use Rattle.std.specs.Prelude.{sum, option_to_list, ◌↔◌}
use Rattle.std.proofs.lemmas.List.{append_assoc}
use Rattle.std.proofs.lemmas.List.Sums.{sum_by-set}
use Rattle.rail_model.specs.declared.types.Ask.TheVariants.{Yes, Arrived, Occupied, Full, Waits}
use Rattle.rail_model.specs.declared.types.Tried.TheVariants.{Exchanged, Differs, Over, Early, NoMore}
use Rattle.rail_model.specs.declared.types.Reply.{Reply}
use Rattle.rail_model.specs.declared.types.Reply.TheVariants.{Driver, NotWhole, Control}
use Rattle.rail_model.specs.declared.types.Entry.{Entry}
use Rattle.rail_model.specs.declared.types.Line.{Line}
use Rattle.rail_model.specs.Yard.{Offer, Yard, after, after_entry, IsAnswer, IsHistory}
use Rattle.rail_model.specs.Lines.{line_of, journal_of}
use Rattle.rail_model.specs.Journal.{IsRight, after_lines}
use Rattle.rail_model.proofs.LinesOfMoves.{move_line_right}

-- an entry's line, where it has one, is right
right_after : (tables : List Offer) (y : Yard) (who : ℕ) (r : Reply) (lines : List Line) → IsAnswer tables y (record { who = who; reply = r })
    → IsRight tables (after_entry y (record { who = who; reply = r })) lines
    → IsRight tables y (option_to_list (line_of tables y (record { who = who; reply = r })) ++ lines)
right_after tables y who (Driver Yes) lines a h = (move_line_right tables y who a.1, h)
right_after tables y who (Driver Arrived) lines a h = h
right_after tables y who (Driver (Occupied by)) lines a h = h
right_after tables y who (Driver (Full s n)) lines a h = h
right_after tables y who (Driver (Waits c)) lines a h = h
right_after tables y who (NotWhole step ask) lines a h = h
right_after tables y who (Control Exchanged) lines a h = ((refl, a.2), h)
right_after tables y who (Control (Differs i k)) lines a h = ((refl, a.2), h)
right_after tables y who (Control (Over s n)) lines a h = ((refl, a.2), h)
right_after tables y who (Control (Early m)) lines a h = h
right_after tables y who (Control NoMore) lines a h = h

pub journal_right : (tables : List Offer) (y : Yard) (h : List Entry) → IsHistory tables y h → IsRight tables y (journal_of tables y h)
journal_right tables y [] legal = tt
journal_right tables y (e ∷ later) legal =
    right_after tables y e.who e.reply (journal_of tables (after_entry y e) later) legal.0 (journal_right tables (after_entry y e) later legal.1)

-- an entry's line, where it has one, leads where the entry leads
leads_after : (tables : List Offer) (y : Yard) (who : ℕ) (r : Reply) (lines : List Line)
    → after_lines y (option_to_list (line_of tables y (record { who = who; reply = r })) ++ lines) ≡ after_lines (after_entry y (record { who = who; reply = r })) lines
leads_after tables y who (Driver Yes) lines = refl
leads_after tables y who (Driver Arrived) lines = refl
leads_after tables y who (Driver (Occupied by)) lines = refl
leads_after tables y who (Driver (Full s n)) lines = refl
leads_after tables y who (Driver (Waits c)) lines = refl
leads_after tables y who (NotWhole step ask) lines = refl
leads_after tables y who (Control Exchanged) lines = refl
leads_after tables y who (Control (Differs i k)) lines = refl
leads_after tables y who (Control (Over s n)) lines = refl
leads_after tables y who (Control (Early m)) lines = refl
leads_after tables y who (Control NoMore) lines = refl

pub journal_leads : (tables : List Offer) (y : Yard) (h : List Entry) → after_lines y (journal_of tables y h) ≡ after y h
journal_leads tables y [] = refl
journal_leads tables y (e ∷ later) =
    leads_after tables y e.who e.reply (journal_of tables (after_entry y e) later) ∙ journal_leads tables (after_entry y e) later

pub history_parts : (tables : List Offer) (y : Yard) (f g : List Entry) → IsHistory tables y (f ++ g) ↔ (IsHistory tables y f × IsHistory tables (after y f) g)
history_parts tables y [] g = (λ h. (tt, h), λ h. h.1)
history_parts tables y (e ∷ f) g =
    let later = history_parts tables (after_entry y e) f g in
    (λ h. ((h.0, (later.0 h.1).0), (later.0 h.1).1), λ h. (h.0.0, later.1 (h.0.1, h.1)))

pub after_parts : (y : Yard) (f g : List Entry) → after y (f ++ g) ≡ after (after y f) g
after_parts y [] g = refl
after_parts y (e ∷ f) g = after_parts (after_entry y e) f g

pub journal_parts : (tables : List Offer) (y : Yard) (f g : List Entry) → journal_of tables y (f ++ g) ≡ journal_of tables y f ++ journal_of tables (after y f) g
journal_parts tables y [] g = refl
journal_parts tables y (e ∷ f) g =
    let z = after_entry y e in
    let line = option_to_list (line_of tables y e) in
    ap (λ (lines : List Line). line ++ lines) (journal_parts tables z f g) ∙ sym (append_assoc line (journal_of tables z f) (journal_of tables (after z f) g))

-- one more place is one more in the sum
sum_more : (p : List ℕ) (i : ℕ) → i < length p → sum (set p i (get_or p i 0 + 1)) ≡ sum p + 1
sum_more p i lt = let more = sum_by-set (λ (x : ℕ). x) p i (get_or p i 0 + 1) 0 lt in omega arith

-- an entry makes as many moves as the sum of the positions rises by
raised_after : (tables : List Offer) (y : Yard) (who : ℕ) (r : Reply) → IsAnswer tables y (record { who = who; reply = r })
    → (after_entry y (record { who = who; reply = r })).moves + sum y.positions ≡ y.moves + sum (after_entry y (record { who = who; reply = r })).positions
raised_after tables y who (Driver Yes) a =
    let m = a.1 in
    let more = sum_more y.positions who (omega (arith, m.before.one_each, m.train)) in
    omega arith
raised_after tables y who (Driver Arrived) a = refl
raised_after tables y who (Driver (Occupied by)) a = refl
raised_after tables y who (Driver (Full s n)) a = refl
raised_after tables y who (Driver (Waits c)) a = refl
raised_after tables y who (NotWhole step ask) a = refl
raised_after tables y who (Control Exchanged) a = refl
raised_after tables y who (Control (Differs i k)) a = refl
raised_after tables y who (Control (Over s n)) a = refl
raised_after tables y who (Control (Early m)) a = refl
raised_after tables y who (Control NoMore) a = refl

pub moves_raise : (tables : List Offer) (y : Yard) (h : List Entry) → IsHistory tables y h → (after y h).moves + sum y.positions ≡ y.moves + sum (after y h).positions
moves_raise tables y [] legal = refl
moves_raise tables y (e ∷ later) legal =
    let one = raised_after tables y e.who e.reply legal.0 in
    let more = moves_raise tables (after_entry y e) later legal.1 in
    omega arith
