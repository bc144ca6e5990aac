-- Which points have a row in a picture.
use Rattle.std.specs.Prelude.{ℕ, ◌<◌, ◌≤◌, ◌==◌, List, ◌++◌, length, count_by, filter_map, All, Contains, Option, None, IfSome, option_to_list, if◌then◌else◌}
use Rattle.run_timetable.specs.declared.run.Run.{Run}
use Rattle.run_timetable.specs.declared.run.Step.{Step}
use Rattle.run_timetable.specs.Timetable.{start_of, trains_of}

-- where a step leads train i
abbrev pub led_to : ℕ → Step → Option ℕ
led_to i s = if s.train == i then s.to else None

-- the points that train i comes to, in order
abbrev pub way_in : Run → ℕ → List ℕ
way_in run i = option_to_list (start_of run.starts.items i) ++ filter_map (led_to i) run.steps.items

-- Each point that a train comes to has a row, unless there are 512 rows.
abbrev pub HasRows : Run → List ℕ → Type 0
HasRows run rows = (i p : ℕ) → i < trains_of run.starts.items → Contains (way_in run i) p → length rows < 512 → Contains rows p

-- No point has two rows.
abbrev pub IsOnce : List ℕ → Type 0
IsOnce rows = (p : ℕ) → count_by (λ row. row == p) rows ≤ 1

-- The points at which trains begin, and those to which steps lead, are in the list.
abbrev pub HasStarts : List ℕ → List (Option ℕ) → Type 0
HasStarts points starts = All (λ start. IfSome start (Contains points)) starts

abbrev pub HasTargets : List ℕ → List Step → Type 0
HasTargets points steps = All (λ s. IfSome s.to (Contains points)) steps

-- Points are added, each at most once.
pub record Adds (before after : List ℕ) : Type 0 where
  pub kept : (p : ℕ) → Contains before p → Contains after p
  pub once : IsOnce before → IsOnce after
