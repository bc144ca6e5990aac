-- What a sink was given and what was taken from a source, where they tell their bytes.
use Rattle.std.specs.Prelude.{◌≡◌, ℕ, ◌≤◌, List, ◌++◌, length, take, Option, None, Some}
use Rattle.std.specs.Io.KnownBytes.{Consumes}

-- the sink took these bytes and nothing else; where it tells after, it told before
abbrev pub Adds : Option (List ℕ) → Option (List ℕ) → List ℕ → Type 0
Adds old None bytes = Unit {0}
Adds None (Some now) bytes = ⊥
Adds (Some before) (Some now) bytes = now ≡ before ++ bytes

-- the sink took a first part of these bytes and nothing else
abbrev pub AddsPrefix : Option (List ℕ) → Option (List ℕ) → List ℕ → Type 0
AddsPrefix old new bytes = (count : ℕ) × Adds old new (take count bytes)

-- at most this many of the bytes that were left are gone
abbrev pub ConsumesAtMost : ℕ → Option (List ℕ) → Option (List ℕ) → Type 0
ConsumesAtMost most old new = (taken : List ℕ) × Consumes old new taken × (length taken ≤ most)
