-- Which tracks lines lay, and whether a route keeps to them.
use Rattle.std.specs.Prelude.{ℕ, zero, suc, ◌+◌, List, length, Bool, true, false, ◌&&◌, ◌||◌, not, bytes_eq, string_bytes, String, Vec, is_none, Option, Some, None, slice_get}
use Rattle.std.specs.List.{list_all, list_any}
use Rattle.std.specs.declared.alloc.Global.{Global}
use Rattle.rail_model.specs.Checks.{below}
use Rattle.plan_document.specs.Shares.{is_among}
use Rattle.plan_document.specs.declared.tracks.Beside.{Beside}
use Rattle.plan_document.specs.declared.tracks.Beside.TheVariants.{Any, End, Point}

-- whether there is a point, and this is its name
abbrev pub names : List ℕ → Option (String Global) → Bool
names point None = false
names point (Some there) = bytes_eq point (string_bytes there)

-- whether what stands beside a point, if anything does, is what is wanted there
abbrev pub is_beside : Beside → Option (String Global) → Bool
is_beside Any there = true
is_beside End there = is_none there
is_beside (Point point) there = names point.now there

-- the point before a place
abbrev pub before : List (String Global) → ℕ → Option (String Global)
before line zero = None
before line (suc k) = slice_get line k

-- whether a line has a point at a place, between two that pass these tests
abbrev pub is_between : List (String Global) → (Option (String Global) → Bool) → List ℕ → (Option (String Global) → Bool) → ℕ → Bool
is_between line one here other place = names here (slice_get line place) && one (before line place) && other (slice_get line (place + 1))

-- whether a line comes by a point, from one beside it that passes a test to one that passes another, or back
abbrev pub comes_by : List (String Global) → (Option (String Global) → Bool) → List ℕ → (Option (String Global) → Bool) → Bool
comes_by line one here other = list_any (λ place. is_between line one here other place || is_between line other here one place) (below (length line))

-- whether one of some lines does
abbrev pub is_laid : List (Vec (String Global) Global) → (Option (String Global) → Bool) → List ℕ → (Option (String Global) → Bool) → Bool
is_laid lines one here other = list_any (λ line. comes_by line.items one here other) lines

-- whether a train goes over a point as lines do: as one of them, or from the end of one to the end of one
abbrev pub goes : List (Vec (String Global) Global) → List ℕ → List ℕ → List ℕ → Bool
goes lines one here other =
    not (bytes_eq one other)
    && (is_laid lines (names one) here (names other) || (is_laid lines (names one) here is_none && is_laid lines (names other) here is_none))

-- whether a line has two points side by side
abbrev pub is_linked : List (Vec (String Global) Global) → List ℕ → List ℕ → Bool
is_linked lines one here = is_laid lines (names one) here (λ there. true)

-- whether a line has a point, and beside it the one from which a train comes, if it comes from one
abbrev pub is_track : List (Vec (String Global) Global) → Option (String Global) → List ℕ → Bool
is_track lines None here = is_laid lines (λ there. true) here (λ there. true)
is_track lines (Some one) here = is_linked lines (string_bytes one) here

-- whether a train that goes from a point over another to a third one passes it right: over a switch as lines do
abbrev pub passes_over : List (Vec (String Global) Global) → List (String Global) → List ℕ → List ℕ → List ℕ → Bool
passes_over lines switches one here other = not (is_among switches here) || goes lines one here other

-- whether a train passes a point right, if it comes from one and goes on to another
abbrev pub passes : List (Vec (String Global) Global) → List (String Global) → Option (String Global) → List ℕ → Option (String Global) → Bool
passes lines switches None here other = true
passes lines switches (Some one) here None = true
passes lines switches (Some one) here (Some other) = passes_over lines switches (string_bytes one) here (string_bytes other)

-- whether a route that comes to a point, from one and on to another if there are any, keeps to lines there
abbrev pub keeps_there : List (Vec (String Global) Global) → List (String Global) → Option (String Global) → Option (String Global) → Option (String Global) → Bool
keeps_there lines switches one None other = true
keeps_there lines switches one (Some here) other = is_track lines one (string_bytes here) && passes lines switches one (string_bytes here) other

-- whether a route keeps to lines at a place: its point and the link to it are those of a line, and it passes a switch as lines do
abbrev pub keeps_at : List (Vec (String Global) Global) → List (String Global) → List (String Global) → ℕ → Bool
keeps_at lines switches route place = keeps_there lines switches (before route place) (slice_get route place) (slice_get route (place + 1))

-- whether a route keeps to lines at each place
abbrev pub keeps : List (Vec (String Global) Global) → List (String Global) → List (String Global) → Bool
keeps lines switches route = list_all (keeps_at lines switches route) (below (length route))

-- whether a point, if there is one, is no switch
abbrev pub is_no_switch : List (String Global) → Option (String Global) → Bool
is_no_switch switches None = true
is_no_switch switches (Some point) = not (is_among switches (string_bytes point))

-- whether a route neither begins nor ends at a switch
abbrev pub has_free_ends : List (String Global) → List (String Global) → Bool
has_free_ends switches route = is_no_switch switches (slice_get route 0) && is_no_switch switches (before route (length route))
