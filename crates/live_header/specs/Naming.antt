-- The line that begins a session.
use Rattle.std.specs.Prelude.{ℕ, ◌||◌, List, take, drop, codes, Bool, true, nat_eq, if◌then◌else◌}
use Rattle.std.specs.List.{starts_with}
use Rattle.std.specs.Str.{bytes_eq}

-- whether a line begins a session: with a name of its document or without one, with reports or without them
abbrev pub is_live : List ℕ → Bool
is_live line =
    bytes_eq line (codes "live") || bytes_eq line (codes "live reports")
    || starts_with nat_eq line (codes "live document=") || starts_with nat_eq line (codes "live reports document=")

-- whether trains report
abbrev pub has_reports : List ℕ → Bool
has_reports line = starts_with nat_eq line (codes "live reports")

-- whether the line names no document, or the one of this hash
abbrev pub suits : List ℕ → List ℕ → Bool
suits line hash =
    if bytes_eq (take 14 line) (codes "live document=") then bytes_eq (drop 14 line) hash
    else (if bytes_eq (take 22 line) (codes "live reports document=") then bytes_eq (drop 22 line) hash else true)
