-- Worked rows: T0 went from A to M, T1 stands where it began, and then asks.
use Rattle.std.proofs.Common.{◌≡◌, List, ◌∷◌, [], Some, refl, inl, inr, lit<, lit≤, arith}
use Rattle.rail_model.specs.declared.types.Line.{Line}
use Rattle.rail_model.specs.declared.types.Line.TheVariants.{Move}
use Rattle.live_yard.specs.declared.told.Told.TheVariants.{May, Occupied}
use Rattle.live_yard.specs.declared.requests.Reply.TheVariants.{Granted, Held}
use Rattle.live_yard.specs.Answers.{StandsIfHeld, told_reply}
use Rattle.live_yard.specs.Reported.{IsFirstReport}

abbrev journal : List Line
journal = Move 0 0 (Some 1) ∷ []

-- a session that begins now counts T0 as still at A
on_its_last_step : IsFirstReport journal 0 1 0
on_its_last_step =
    inl (
      (
        1,
        record {
          counted = lit< tt;
          within = lit≤ tt;
          line =
              (Move 0 0 (Some 1), refl, refl);
          later = refl;
        },
      ),
      refl,
    )

where_it_began : IsFirstReport journal 1 0 0
where_it_began = inr (refl, refl)

-- the next line is number 2
goes : told_reply May 2 ≡ Granted 2
goes = refl

waits : told_reply (Occupied 0) 2 ≡ Held (Occupied 0)
waits = refl

wants : StandsIfHeld (Occupied 0) [] 1 (1 ∷ [])
wants = record {
  number = 0;
  others = [];
  drops = inl (refl, (λ has. omega (arith, has.1)), refl);
  stands = inr ((λ has. omega (arith, has.1)), refl);
}
