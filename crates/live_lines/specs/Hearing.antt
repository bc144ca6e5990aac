-- What a line is: nothing, a request with its tag, or why it is none.
use Rattle.std.specs.Prelude.{ℕ, ◌==◌, ◌&&◌, ◌||◌, List, [], ◌∷◌, length, drop, slice_index, nat_lt, nat_le, Bool, Some, None, Result, Ok, Err, if◌then◌else◌}
use Rattle.std.specs.Char.{is_ascii_alphanumeric}
use Rattle.std.specs.List.{list_all, position}
use Rattle.move_journal.specs.Words.{word_list}
use Rattle.rail_model.specs.Names.{Names}
use Rattle.live_lines.specs.declared.calls.Call.{Call}
use Rattle.live_lines.specs.declared.calls.Fault.{Fault}
use Rattle.live_lines.specs.declared.calls.Fault.TheVariants.{Long, Byte, Tag}
use Rattle.live_lines.specs.declared.calls.Heard.{Heard}
use Rattle.live_lines.specs.declared.calls.Heard.TheVariants.{Empty, Asked, Refused}
use Rattle.live_lines.specs.Verbs.{call_of}

-- the most bytes of a line
abbrev pub most_bytes : ℕ
most_bytes = 256

-- a byte that no line may have: below the blank, or above ~
abbrev pub is_foreign : ℕ → Bool
is_foreign b = nat_lt b 32 || nat_lt 126 b

-- a byte of a tag: a letter, a digit, or one of _ . : -
abbrev pub is_tag_byte : ℕ → Bool
is_tag_byte b = is_ascii_alphanumeric b || (b == 95) || (b == 46) || (b == 58) || (b == 45)

-- whether a word begins with #
abbrev pub is_marked : List ℕ → Bool
is_marked word = nat_lt 0 (length word) && (slice_index word 0 == 35)

-- a tag: # and 1 to 32 bytes
unfoldable pub is_tag : List ℕ → Bool
is_tag word = is_marked word && nat_lt 1 (length word) && nat_le (length word) 33 && list_all is_tag_byte (drop 1 word)

-- a request, or why it is none, under a tag
abbrev pub under : ℕ → Result Call Fault → Heard
under tag (Ok call) = Asked tag call
under tag (Err fault) = Refused tag fault

-- what the words of a line are
unfoldable pub heard_words : Names → Bool → List (List ℕ) → Heard
heard_words N reports [] = Empty
heard_words N reports (first ∷ later) =
    if is_tag first then under (length first) (call_of N reports later)
    else (if is_marked first then Refused 0 Tag else under 0 (call_of N reports (first ∷ later)))

-- what a line without its carriage return is: the first fault of length, bytes, tag and words
unfoldable pub heard : Names → Bool → List ℕ → Heard
heard N reports line =
    if length line == 0 then Empty
    else (if nat_lt most_bytes (length line) then Refused 0 Long
    else elim (position is_foreign line) [
      | Some at ↦ Refused 0 (Byte at)
      | None ↦ heard_words N reports (word_list line)
    ])
