-- Why there is no whole header.
use Rattle.std.specs.Prelude.{◌≡◌, ◌≢◌, ℕ, ◌<◌}
use Rattle.live_header.specs.declared.scanning.Stage.{Stage}
use Rattle.live_header.specs.declared.scanning.Stage.TheVariants.{Document, Journal, Live}
use Rattle.live_header.specs.declared.reading.Unread.{Unread}
use Rattle.live_header.specs.declared.reading.Unread.TheVariants.{Memory, ReadFault, TooLong, NoJournal, NoLive}

-- the most bytes of a header
abbrev pub most_bytes : ℕ
most_bytes = 16777216

-- What a header lacks that ends in this part.
abbrev pub IsMissing : Stage → Unread → Type 0
IsMissing Document e = e ≡ NoJournal
IsMissing Journal e = e ≡ NoLive
IsMissing Live e = ⊥

-- The cause, where so many bytes were read and the header is in this part after them. Being out of memory has none.
abbrev pub IsUnread : Stage → ℕ → Type 0 → Type 0 → Unread → Type 0
IsUnread stage count at_end failed Memory = Unit {0}
IsUnread stage count at_end failed ReadFault = (stage ≢ Live) × failed
IsUnread stage count at_end failed TooLong = most_bytes < count
IsUnread stage count at_end failed NoJournal = (stage ≡ Document) × at_end
IsUnread stage count at_end failed NoLive = (stage ≡ Journal) × at_end
