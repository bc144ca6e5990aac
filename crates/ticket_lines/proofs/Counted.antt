-- A train has a line for each place that it went on, and the control one for each table that has its answer.
use Rattle.std.proofs.Common.{◌≡◌, ◌≢◌, ℕ, suc, ◌+◌, ◌<◌, ◌≤◌, List, [], ◌∷◌, length, get_or, refl, sym, ap, ◌∙◌, subst, arith, length-append, get_or-set_same, get_or-set_other}
use mathlib.Core.Logic.{dite}
use native.Mathlib.Decide.{ℕ_discrete}
use Rattle.rail_model.specs.declared.types.Ask.TheVariants.{Yes, Arrived, Occupied, Full, Waits}
use Rattle.rail_model.specs.declared.types.Tried.TheVariants.{Exchanged, Differs, Over, Early, NoMore}
use Rattle.rail_model.specs.declared.types.Reply.{Reply}
use Rattle.rail_model.specs.declared.types.Reply.TheVariants.{Driver, NotWhole, Control}
use Rattle.rail_model.specs.declared.types.Entry.{Entry}
use Rattle.rail_model.specs.Lines.{line_of}
use Rattle.rail_model.specs.Table.{trains, place}
use Rattle.rail_model.specs.Yard.{Offer, Yard, offer, after, after_entry, IsAnswer, IsHistory}
use Rattle.ticket_lines.specs.Tickets.{Mark, marks_of, at_ticket, own_lines}
use Rattle.ticket_lines.proofs.Histories.{own_here, own_else}

-- each table has at most 32 trains
abbrev pub AreFew : List Offer → Type 0
AreFew tables = (t : ℕ) → trains (offer tables t).table ≤ 32

module _ (tables : List Offer) (few : AreFew tables) where
  -- another entry's effect on the place of train p, and the lines of its own
  place_here : (y : Yard) (p k : ℕ) (r : Reply) → p < 32 → IsAnswer tables y (record { who = p; reply = r })
      → place (after_entry y (record { who = p; reply = r })).positions p ≡ place y.positions p + length (at_ticket k (line_of tables y (record { who = p; reply = r })))
  place_here y p k (Driver Yes) low a =
      let m = a.1 in
      let one_each = m.before.one_each in
      let train = m.train in
      get_or-set_same y.positions p (get_or y.positions p 0 + 1) 0 (omega arith)
  place_here y p k (Driver Arrived) low a = omega arith
  place_here y p k (Driver (Occupied by)) low a = omega arith
  place_here y p k (Driver (Full s n)) low a = omega arith
  place_here y p k (Driver (Waits c)) low a = omega arith
  place_here y p k (NotWhole step ask) low a = omega arith
  place_here y p k (Control tried) low a = let e = a.0 in absurd (omega arith)

  place_else : (y : Yard) (p q : ℕ) (r : Reply) → p ≢ q → place (after_entry y (record { who = q; reply = r })).positions p ≡ place y.positions p
  place_else y p q (Driver Yes) ne = get_or-set_other y.positions q p (get_or y.positions q 0 + 1) 0 ne
  place_else y p q (Driver Arrived) ne = refl
  place_else y p q (Driver (Occupied by)) ne = refl
  place_else y p q (Driver (Full s n)) ne = refl
  place_else y p q (Driver (Waits c)) ne = refl
  place_else y p q (NotWhole step ask) ne = refl
  place_else y p q (Control Exchanged) ne = refl
  place_else y p q (Control (Differs i k)) ne = refl
  place_else y p q (Control (Over s n)) ne = refl
  place_else y p q (Control (Early m)) ne = refl
  place_else y p q (Control NoMore) ne = refl

  tried_here : (y : Yard) (k : ℕ) (r : Reply) → IsAnswer tables y (record { who = 32; reply = r })
      → (after_entry y (record { who = 32; reply = r })).tried ≡ y.tried + length (at_ticket k (line_of tables y (record { who = 32; reply = r })))
  tried_here y k (Driver ask) a = let lt = a.0 in let f = few y.table in absurd (omega arith)
  tried_here y k (NotWhole step ask) a = omega arith
  tried_here y k (Control Exchanged) a = refl
  tried_here y k (Control (Differs i j)) a = refl
  tried_here y k (Control (Over s n)) a = refl
  tried_here y k (Control (Early m)) a = omega arith
  tried_here y k (Control NoMore) a = omega arith

  tried_else : (y : Yard) (q : ℕ) (r : Reply) → 32 ≢ q → IsAnswer tables y (record { who = q; reply = r }) → (after_entry y (record { who = q; reply = r })).tried ≡ y.tried
  tried_else y q (Driver Yes) ne a = refl
  tried_else y q (Driver Arrived) ne a = refl
  tried_else y q (Driver (Occupied by)) ne a = refl
  tried_else y q (Driver (Full s n)) ne a = refl
  tried_else y q (Driver (Waits c)) ne a = refl
  tried_else y q (NotWhole step ask) ne a = refl
  tried_else y q (Control tried) ne a = absurd (ne (sym a.0))

  -- a train's place has risen by its lines
  pub places_counted : (y : Yard) (p k : ℕ) (H : List Entry) → p < 32 → IsHistory tables y H
      → place (after y H).positions p ≡ place y.positions p + length (own_lines p k (marks_of tables y H))
  places_counted y p k [] low legal = omega arith
  places_counted y p k (e ∷ H) low legal = go (places_counted (after_entry y e) p (suc k) H low legal.1)
    where
      go : place (after (after_entry y e) H).positions p ≡ place (after_entry y e).positions p + length (own_lines p (suc k) (marks_of tables (after_entry y e) H))
          → place (after y (e ∷ H)).positions p ≡ place y.positions p + length (own_lines p k (marks_of tables y (e ∷ H)))
      go later =
          let m : Mark = record { who = e.who; line = line_of tables y e } in
          let ms = marks_of tables (after_entry y e) H in
          dite (ℕ_discrete p e.who)
          (λ (same : p ≡ e.who).
          let here = subst (λ q. place (after_entry y (record { who = q; reply = e.reply })).positions p ≡ place y.positions p + length (at_ticket k (line_of tables y (record { who = q; reply = e.reply })))) same
          (place_here y p k e.reply low (subst (λ q. IsAnswer tables y (record { who = q; reply = e.reply })) (sym same) legal.0)) in
          let both = ap length (own_here p k m ms same) ∙ length-append (at_ticket k m.line) (own_lines p (suc k) ms) in
          let now = later in omega arith)
          (λ (ne : p ≢ e.who).
          let far = place_else y p e.who e.reply ne in
          let same = ap length (own_else p k m ms ne) in
          let now = later in omega arith)

  -- the tables that have their answer are the control's lines
  pub tables_counted : (y : Yard) (k : ℕ) (H : List Entry) → IsHistory tables y H
      → (after y H).tried ≡ y.tried + length (own_lines 32 k (marks_of tables y H))
  tables_counted y k [] legal = omega arith
  tables_counted y k (e ∷ H) legal = go (tables_counted (after_entry y e) (suc k) H legal.1)
    where
      go : (after (after_entry y e) H).tried ≡ (after_entry y e).tried + length (own_lines 32 (suc k) (marks_of tables (after_entry y e) H))
          → (after y (e ∷ H)).tried ≡ y.tried + length (own_lines 32 k (marks_of tables y (e ∷ H)))
      go later =
          let m : Mark = record { who = e.who; line = line_of tables y e } in
          let ms = marks_of tables (after_entry y e) H in
          dite (ℕ_discrete 32 e.who)
          (λ (same : 32 ≡ e.who).
          let here = subst (λ q. (after_entry y (record { who = q; reply = e.reply })).tried ≡ y.tried + length (at_ticket k (line_of tables y (record { who = q; reply = e.reply })))) same
          (tried_here y k e.reply (subst (λ q. IsAnswer tables y (record { who = q; reply = e.reply })) (sym same) legal.0)) in
          let both = ap length (own_here 32 k m ms same) ∙ length-append (at_ticket k m.line) (own_lines 32 (suc k) ms) in
          let now = later in omega arith)
          (λ (ne : 32 ≢ e.who).
          let far = tried_else y e.who e.reply ne legal.0 in
          let same = ap length (own_else 32 k m ms ne) in
          let now = later in omega arith)
