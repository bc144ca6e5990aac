-- What is wrong with a journal's text or with its lines, as a refusal. There may be no memory at any journal.
use Rattle.std.specs.Prelude.{◌≢◌, ℕ, List}
use Rattle.rail_model.specs.Names.{Names}
use Rattle.rail_model.specs.Yard.{Offer, Yard}
use Rattle.rail_model.specs.Journal.{Journal}
use Rattle.move_journal.specs.declared.faults.BadText.{BadText}
use Rattle.move_journal.specs.declared.faults.BadText.TheVariants as text
use Rattle.move_journal.specs.declared.faults.BadLine.{BadLine}
use Rattle.move_journal.specs.declared.faults.BadLine.TheVariants as line
use Rattle.move_journal.specs.Answers.{HasTextFault}
use Rattle.move_journal.specs.Replays.{HasBadLine, IsBrokenJournal}
use Rattle.accepted_documents.specs.declared.refused.BadJournal.{BadJournal}
use Rattle.accepted_documents.specs.declared.refused.BadJournal.TheVariants.{Memory, Text, Line}

-- what the fault of a journal's text is as a refusal
abbrev pub bad_text : BadText → BadJournal
bad_text text.Memory = Memory
bad_text e = Text e

-- what the fault of a journal's lines is as a refusal
abbrev pub bad_line : BadLine → BadJournal
bad_line line.Memory = Memory
bad_line e = Line e

-- Why bytes are no journal's text.
abbrev pub IsBadText : Names → List ℕ → BadJournal → Type 0
IsBadText N given Memory = Unit {0}
IsBadText N given (Text cause) = HasTextFault N given cause
IsBadText N given e = ⊥

-- Why bytes are no front of a text either: an end line isn't asked for.
abbrev pub IsBadPart : Names → List ℕ → BadJournal → Type 0
IsBadPart N given Memory = Unit {0}
IsBadPart N given (Text cause) = HasTextFault N given cause × (cause ≢ text.NoEnd)
IsBadPart N given e = ⊥

-- The first line that isn't right.
abbrev pub IsBadFront : List Offer → Yard → Journal → BadJournal → Type 0
IsBadFront tables y J Memory = Unit {0}
IsBadFront tables y J (Line cause) = HasBadLine tables y J.lines cause
IsBadFront tables y J e = ⊥

-- What a journal lacks.
abbrev pub IsBadLine : List Offer → Yard → Journal → BadJournal → Type 0
IsBadLine tables y J Memory = Unit {0}
IsBadLine tables y J (Line cause) = IsBrokenJournal tables y J cause
IsBadLine tables y J e = ⊥
