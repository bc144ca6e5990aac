-- Worked rows: what the texts of a session tell of its journal, and its last line.
use Rattle.std.proofs.Common.{◌≡◌, ℕ, zero, suc, ◌<◌, ◌∷◌, [], List, false, Some, refl, sym, lit<, arith, inl, inr}
use Rattle.std.specs.Prelude.{codes}
use Rattle.std.proofs.lemmas.Fmt.{decimal_digit}
use Rattle.rail_model.proofs.MoveTests.{Decides-move}
use Rattle.rail_model.proofs.Samples.{corridor, names}
use Rattle.rail_model.specs.State.{Arrived}
use Rattle.rail_model.specs.Yard.{Offer}
use Rattle.rail_model.specs.declared.types.Line.TheVariants.{Move}
use Rattle.plain_yard.specs.Keeps.{PlainRun}
use Rattle.live_session.specs.Journals.{HasTags, IsLastLine, TellsJournal}
use Rattle.live_session.specs.States.{SessionState}

abbrev tables : List Offer
tables = record { table = corridor; after = 0 } ∷ []

-- a session without reports, in which T1 has a want with a tag
abbrev session_of : PlainRun → List ℕ → SessionState
session_of run there = record {
  names = names;
  document = [];
  dispatch = record { yard = record { run = run; there = there; reports = false }; wants = 1 ∷ [] };
  tags = [] ∷ codes "#a" ∷ [];
}

abbrev opening : PlainRun
opening = record {
  tables = tables;
  yard = record { positions = 0 ∷ 0 ∷ []; table = 0; tried = 0; moves = 0 };
  lines = [];
  room = 4079;
}

-- T0 was granted its next point
abbrev moved : PlainRun
moved = record opening {
  yard = record { positions = 1 ∷ 0 ∷ []; table = 0; tried = 0; moves = 1 };
  lines = Move 0 0 (Some 1) ∷ [];
}

tags : HasTags (session_of opening (0 ∷ 0 ∷ []))
tags zero = tt
tags (suc zero) = refl
tags (suc (suc i)) = tt

granted : TellsJournal (session_of opening (0 ∷ 0 ∷ [])) (codes "1 move T0 A B\ngranted T0 1 B line=1\n")
    (session_of moved (1 ∷ 0 ∷ []))
granted = record {
  added = Move 0 0 (Some 1) ∷ [];
  run = record {
    tables = refl;
    lines = refl;
    right = (((Decides-move corridor (0 ∷ 0 ∷ []) 0).0 refl, refl, refl), tt);
    leads = refl;
  };
  names = refl;
  told = record {
    texts = codes "1 move T0 A B" ∷ codes "granted T0 1 B line=1" ∷ [];
    joined = refl;
    journal = sym (rw (decimal_digit 1 (lit< tt)) refl);
  };
}

under_way : IsLastLine tables moved.yard moved.lines (codes "suspend moves=1 tables=0\n")
under_way =
    inr (
      λ done. let e : 1 ≡ 3 = done.0 0 (lit< tt) in omega arith,
      sym (rw (
        decimal_digit 1 (lit< tt),
        decimal_digit 0
            (lit< tt),
      ) refl),
    )

all_there : Arrived corridor (3 ∷ 3 ∷ [])
all_there zero lt = refl
all_there (suc zero) lt = refl
all_there (suc (suc i)) lt = let few : suc (suc i) < 2 = lt in absurd (omega arith)

done : IsLastLine tables (record { positions = 3 ∷ 3 ∷ []; table = 0; tried = 0; moves = 6 }) []
    (codes "end moves=6 tables=0\n")
done = inl ((all_there, λ more. omega arith), sym (rw (decimal_digit 6 (lit< tt), decimal_digit 0 (lit< tt)) refl))
