-- A train that waits for something has no move.
use Rattle.std.proofs.Common.{◌≡◌, ◌⊎◌, ℕ, ◌-◌, List, Some, String, Vec, subst, inl, inr}
use Rattle.std.specs.declared.alloc.Global.{Global}
use Rattle.rail_model.specs.declared.types.Ask.{Ask}
use Rattle.rail_model.specs.declared.types.Ask.TheVariants.{Yes}
use Rattle.rail_model.specs.Move.{Answers, Move}
use Rattle.rail_model.specs.Names.{Names}
use Rattle.rail_model.specs.Table.{Table}
use Rattle.rail_model.proofs.Asks.{told_once}
use Rattle.document_json.specs.Doc.{Doc}
use Rattle.run_timetable.specs.declared.run.Run.{Run}
use Rattle.wait_causes.specs.Causes.{IsCause, IsCauseIn, cause_words}
use Rattle.wait_causes.specs.Waits.{IsKept}

-- a train that is told what keeps it has no move: of one that has, only `Yes` is told
kept-in : (N : Names) (S : List (String Global)) (T : Table) (p : List ℕ) (i : ℕ) (words : List ℕ) → IsCauseIn N S T p i (Some words)
    → (q : List ℕ) → Move T p i q → ⊥
kept-in N S T p i words (inl in_state) q move =
    let told : Ask = in_state.1.0 in
    let may : Answers T p i Yes = subst (λ (r : List ℕ). Move T p i r) move.step move in
    let yes : told ≡ Yes = told_once T p i told Yes in_state.0.1 in_state.1.1 may in
    let none : Some words ≡ cause_words N S T p i Yes = subst (λ (a : Ask). Some words ≡ cause_words N S T p i a) yes in_state.1.2 in
    cc none
kept-in N S T p i words (inr nothing) q move = cc nothing.1

pub kept : (D : Doc) (S : List (Vec (String Global) Global)) (run : Run) (i leaves : ℕ) (words : List ℕ)
    → IsCause D S run i leaves (Some words) → IsKept D run leaves i ⊎ IsKept D run (leaves - 1) i
kept D S run i leaves words (inl now) = inl (kept-in _ _ _ _ i words now.1)
kept D S run i leaves words (inr before) = inr (kept-in _ _ _ _ i words before.1)
