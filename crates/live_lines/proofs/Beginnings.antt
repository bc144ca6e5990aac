-- Only lines of the journal begin with a digit.
use Rattle.std.proofs.Common.{◌≡◌, ℕ, List, [], ◌∷◌, Bool, true, false, refl}
use Rattle.rail_model.specs.Names.{Names}
use Rattle.live_lines.specs.declared.calls.Fault.TheVariants as fault
use Rattle.live_lines.specs.declared.told.Prospect.TheVariants.{May, Waits, Arrived}
use Rattle.live_lines.specs.declared.trains.TrainAnswer.TheVariants as train
use Rattle.live_lines.specs.declared.tables.TableLine.TheVariants.{Table as TableLine, Kept}
use Rattle.live_lines.specs.declared.tables.TableAnswer.TheVariants as table
use Rattle.live_lines.specs.declared.session.SessionAnswer.TheVariants as session
use Rattle.live_lines.specs.declared.refusals.Refusal.TheVariants as refusal
use Rattle.live_lines.specs.declared.answers.Answer.{Answer}
use Rattle.live_lines.specs.declared.answers.Answer.TheVariants.{Train, Table, Session, Refused}
use Rattle.live_lines.specs.declared.rows.Row.{Row}
use Rattle.live_lines.specs.declared.rows.Row.TheVariants as row
use Rattle.live_lines.specs.declared.events.Event.{Event}
use Rattle.live_lines.specs.declared.events.Event.TheVariants as event
use Rattle.live_lines.specs.Answers.{answer_words}
use Rattle.live_lines.specs.Kinds.{begins_with_digit, IsNoJournalLine}
use Rattle.live_lines.specs.Lines.{close_words}
use Rattle.live_lines.specs.Rows.{event_words, row_words}

-- words whose first byte is no digit, behind a tag or without one
pub no_digit : (b : ℕ) (words : List ℕ) → begins_with_digit (b ∷ words) ≡ false → IsNoJournalLine (b ∷ words)
no_digit b words first [] is = first
no_digit b words first (h ∷ tag) is = rw is refl

pub answers : (N : Names) (answer : Answer) → IsNoJournalLine (answer_words N answer)
answers N (Train (train.Granted spot n)) = no_digit _ _ refl
answers N (Train (train.Again spot n)) = no_digit _ _ refl
answers N (Train (train.Told (May next))) = no_digit _ _ refl
answers N (Train (train.Told (Waits next cause))) = no_digit _ _ refl
answers N (Train (train.Told (Arrived i k))) = no_digit _ _ refl
answers N (Train (train.Dropped i n)) = no_digit _ _ refl
answers N (Train (train.There i k)) = no_digit _ _ refl
answers N (Train (train.Why i n may away)) = no_digit _ _ refl
answers N (Table (table.Tried (TableLine t n))) = no_digit _ _ refl
answers N (Table (table.Tried (Kept t n))) = no_digit _ _ refl
answers N (Table (table.Again answer)) = no_digit _ _ refl
answers N (Table (table.Early t n after)) = no_digit _ _ refl
answers N (Table table.NoMore) = no_digit _ _ refl
answers N (Table (table.Fits t due)) = no_digit _ _ refl
answers N (Table (table.Differs t due i k)) = no_digit _ _ refl
answers N (Table (table.Over t due s n)) = no_digit _ _ refl
answers N (Session (session.Ready document counts)) = no_digit _ _ refl
answers N (Session (session.State counts)) = no_digit _ _ refl
answers N (Session (session.Could may wait arrived)) = no_digit _ _ refl
answers N (Session (session.Since n last)) = no_digit _ _ refl
answers N (Session (session.Pong n)) = no_digit _ _ refl
answers N (Session (session.Bye n)) = no_digit _ _ refl
answers N (Refused (refusal.Line fault.Long)) = no_digit _ _ refl
answers N (Refused (refusal.Line (fault.Byte n))) = no_digit _ _ refl
answers N (Refused (refusal.Line fault.Verb)) = no_digit _ _ refl
answers N (Refused (refusal.Line fault.Words)) = no_digit _ _ refl
answers N (Refused (refusal.Line fault.Train)) = no_digit _ _ refl
answers N (Refused (refusal.Line fault.Tag)) = no_digit _ _ refl
answers N (Refused (refusal.Line fault.Reports)) = no_digit _ _ refl
answers N (Refused (refusal.Place l)) = no_digit _ _ refl
answers N (Refused (refusal.Ahead k)) = no_digit _ _ refl
answers N (Refused (refusal.Before k)) = no_digit _ _ refl
answers N (Refused (refusal.Table n)) = no_digit _ _ refl
answers N (Refused (refusal.Lost n)) = no_digit _ _ refl

pub rows : (N : Names) (told : Row) → IsNoJournalLine (row_words N told)
rows N (row.Told prospect) = no_digit _ _ refl
rows N (row.At spot told there) = no_digit _ _ refl

pub events : (N : Names) (told : Event) → IsNoJournalLine (event_words N told)
events N (event.Granted spot n) = no_digit _ _ refl
events N (event.Due t) = no_digit _ _ refl
events N (event.Done n t) = no_digit _ _ refl

pub closes : (whole : Bool) (n t : ℕ) → IsNoJournalLine (close_words whole n t)
closes true n t = no_digit _ _ refl
closes false n t = no_digit _ _ refl
