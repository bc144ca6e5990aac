-- A train waits for just one thing, or for nothing.
use Rattle.std.proofs.Common.{◌≡◌, ◌∙◌, ℕ, List, Some, None, String, Vec, sym, ap, inl, inr}
use Rattle.std.specs.Prelude.{IsSome, Option}
use Rattle.std.specs.declared.alloc.Global.{Global}
use Rattle.rail_model.specs.Names.{Names}
use Rattle.rail_model.specs.Table.{Table}
use Rattle.rail_model.proofs.Asks.{told_once}
use Rattle.document_json.specs.Doc.{Doc}
use Rattle.run_timetable.specs.declared.run.Run.{Run}
use Rattle.wait_causes.specs.Causes.{IsCause, IsCauseIn, cause_words}

one-in : (N : Names) (S : List (String Global)) (T : Table) (p : List ℕ) (i : ℕ) (one other : Option (List ℕ))
    → IsCauseIn N S T p i one → IsCauseIn N S T p i other → one ≡ other
one-in N S T p i one other (inl a) (inl b) =
    a.1.2 ∙ ap (cause_words N S T p i) (told_once T p i a.1.0 b.1.0 a.0.1 a.1.1 b.1.1) ∙ sym b.1.2
one-in N S T p i one other (inl a) (inr b) = absurd (b.0 a.0)
one-in N S T p i one other (inr a) (inl b) = absurd (a.0 b.0)
one-in N S T p i one other (inr a) (inr b) = a.1 ∙ sym b.1

none-is-none : (cause : Option (List ℕ)) → IsSome cause → cause ≡ None → ⊥
none-is-none None some none = cc some
none-is-none (Some words) some none = cc none

pub one_cause : (D : Doc) (S : List (Vec (String Global) Global)) (run : Run) (i leaves : ℕ) (one other : Option (List ℕ))
    → IsCause D S run i leaves one → IsCause D S run i leaves other → one ≡ other
one_cause D S run i leaves one other (inl a) (inl b) = one-in _ _ _ _ i one other a.1 b.1
one_cause D S run i leaves one other (inl a) (inr b) = absurd (none-is-none one a.0 (one-in _ _ _ _ i one None a.1 b.0))
one_cause D S run i leaves one other (inr a) (inl b) = absurd (none-is-none other b.0 (one-in _ _ _ _ i other None b.1 a.0))
one_cause D S run i leaves one other (inr a) (inr b) = one-in _ _ _ _ i one other a.1 b.1
