-- The lines of a timed journal are right.
use Rattle.std.proofs.Common.{ℕ, List, [], ◌∷◌, refl}
use Rattle.rail_model.specs.declared.types.Ask.TheVariants.{Yes, Arrived as AtEnd, Occupied, Full, Waits}
use Rattle.rail_model.specs.declared.types.Reply.{Reply}
use Rattle.rail_model.specs.declared.types.Reply.TheVariants.{Driver, NotWhole, Control}
use Rattle.rail_model.specs.declared.types.Tried.TheVariants.{Exchanged, Differs, Over, Early, NoMore}
use Rattle.rail_model.specs.Journal.{IsRight}
use Rattle.rail_model.specs.Yard.{Offer}
use Rattle.rail_model.proofs.LinesOfMoves.{move_line_right}
use Rattle.train_sim.specs.Timed.{Clock, Stamped, IsNext, IsTimed, after_stamped, lines_of, timed_lines}

abbrev pub stamped : ℕ → ℕ → Reply → Stamped
stamped t who reply = record { tick = t; entry = record { who = who; reply = reply } }

-- one entry in front of right lines
entry_right : (tables : List Offer) (times : List (List (List ℕ))) (c : Clock) (t who : ℕ) (reply : Reply) (later : List Stamped) → IsNext tables c (stamped t who reply)
    → (let d = after_stamped times c (record { who = who; reply = reply }) in IsRight tables d.yard (lines_of (timed_lines tables d.yard later)))
    → IsRight tables c.yard (lines_of (timed_lines tables c.yard (stamped t who reply ∷ later)))
entry_right tables times c t who (Driver Yes) later next rest = (move_line_right tables c.yard who next.4.1, rest)
entry_right tables times c t who (Driver AtEnd) later next rest = rest
entry_right tables times c t who (Driver (Occupied o)) later next rest = rest
entry_right tables times c t who (Driver (Full s k)) later next rest = rest
entry_right tables times c t who (Driver (Waits k)) later next rest = rest
entry_right tables times c t who (NotWhole s a) later next rest = absurd next
entry_right tables times c t who (Control Exchanged) later next rest = ((refl, next.2.2), rest)
entry_right tables times c t who (Control (Differs i k)) later next rest = ((refl, next.2.2), rest)
entry_right tables times c t who (Control (Over s k)) later next rest = ((refl, next.2.2), rest)
entry_right tables times c t who (Control (Early k)) later next rest = rest
entry_right tables times c t who (Control NoMore) later next rest = rest

pub timed_right : (tables : List Offer) (times : List (List (List ℕ))) (c : Clock) (h : List Stamped) → IsTimed tables times c h → IsRight tables c.yard (lines_of (timed_lines tables c.yard h))
timed_right tables times c [] timed = tt
timed_right tables times c (s ∷ later) timed =
    entry_right tables times c s.tick s.entry.who s.entry.reply later timed.0 (timed_right tables times (after_stamped times c s.entry) later timed.1)
