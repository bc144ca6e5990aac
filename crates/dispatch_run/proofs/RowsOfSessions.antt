-- Worked rows: a session that begins after one line, and the last line of a run.
use Rattle.std.proofs.Common.{◌≡◌, [], ◌∷◌, Some, List, false, refl, sym, lit<, inr, arith}
use Rattle.std.specs.Prelude.{codes}
use Rattle.std.proofs.lemmas.Fmt.{decimal_digit}
use Rattle.rail_model.specs.declared.types.Line.TheVariants.{Move}
use Rattle.rail_model.proofs.Samples.{corridor}
use Rattle.rail_model.specs.Plain.{Plain}
use Rattle.rail_model.specs.Yard.{Offer}
use Rattle.live_yard.specs.Firing.{DispatchState}
use Rattle.dispatch_run.specs.Restoring.{IsRestored}
use Rattle.dispatch_run.specs.Running.{Closes}

abbrev tables : List Offer
tables = record { table = corridor; after = 0 } ∷ []

-- T0 has made its first move
abbrev state : Plain
state = record {
  yard = record { positions = 1 ∷ 0 ∷ []; table = 0; tried = 0; moves = 1 };
  lines = Move 0 0 (Some 1) ∷
      [];
}

-- without reports each train is where it was granted
abbrev dispatcher : DispatchState
dispatcher = record {
  yard = record {
    run = record { tables = tables; yard = state.yard; lines = state.lines; room = 4079 };
    there = 1 ∷ 0 ∷ [];
    reports = false;
  };
  wants = [];
}

restored : IsRestored tables state false dispatcher
restored = record {
  same_tables = refl;
  yard = refl;
  lines = refl;
  with_reports = refl;
  there = refl;
  no_wants = refl;
}

-- a run that goes on some other time
suspended : Closes tables (0 ∷ 0 ∷ []) (Move 0 0 (Some 1) ∷ []) (codes "suspend moves=1 tables=0\n")
suspended =
    inr (
      λ done. let e : 1 ≡ 3 = done.0 0 (lit< tt) in omega arith,
      sym (rw (
        decimal_digit 1 (lit< tt),
        decimal_digit 0
            (lit< tt),
      ) refl),
    )
