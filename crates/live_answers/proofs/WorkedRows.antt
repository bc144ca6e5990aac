-- Worked rows: the corridor A M N B against C N M D, where T0 was granted M.
use Rattle.std.proofs.Common.{◌≡◌, ◌∷◌, [], true, false, None, Some, refl, lit≤}
use Rattle.rail_model.proofs.Samples.{corridor}
use Rattle.rail_model.specs.Yard.{Yard}
use Rattle.live_yard.specs.declared.told.Told.TheVariants.{Arrived, Away, May, Occupied}
use Rattle.live_answers.specs.Seen.{Seen}
use Rattle.live_lines.specs.declared.tables.TableAnswer.TheVariants.{NoMore}
use Rattle.live_lines.specs.declared.told.Cause.TheVariants as cause
use Rattle.live_lines.specs.declared.told.Prospect.TheVariants as prospect
use Rattle.live_answers.specs.Fits.{IsFit}
use Rattle.live_answers.specs.Prospects.{IsCause, IsProspect, next_spot, spot_at}
use Rattle.live_answers.specs.Rows.{AreRows, Says, is_arrived, is_away, is_may, of_told, there_of, waits}
use Rattle.live_answers.specs.Yards.{counts_of, is_last, number_of}

abbrev seen : Seen
seen = record { table = corridor; positions = 1 ∷ 0 ∷ []; reported = 0 ∷ 0 ∷ [] }

at_m : spot_at seen 0 1 ≡ record { train = 0; place = 1; point = Some 1 }
at_m = refl

next_is_n : next_spot seen 0 ≡ record { train = 0; place = 2; point = Some 2 }
next_is_n = refl

may : IsProspect seen 0 May (prospect.May (record { train = 0; place = 2; point = Some 2 }))
may = refl

arrived : IsProspect seen 0 Arrived (prospect.Arrived 0 1)
arrived = (refl, refl)

away : IsCause seen 0 Away (cause.Away 1)
away = refl

occupied : IsCause seen 1 (Occupied 0) (cause.Occupied 0)
occupied = refl

two_rows : AreRows (λ i text. text ≡ i ∷ []) 2 (0 ∷ 1 ∷ [])
two_rows = (0 ∷ [], 1 ∷ [], ([], 0 ∷ [], refl, refl, refl), refl, refl)

says : Says (λ text. text ≡ 7 ∷ []) (1 ∷ []) (1 ∷ 7 ∷ [])
says = (7 ∷ [], refl, refl)

goes : is_may May ≡ true
goes = refl

is_there : is_arrived Arrived ≡ true
is_there = refl

not_reported : is_away Away ≡ true
not_reported = refl

has_to_wait : waits (Occupied 0) ≡ true
has_to_wait = refl

doesnt_wait : waits Arrived ≡ false
doesnt_wait = refl

second_waits : of_told waits (May ∷ Away ∷ []) 1 ≡ true
second_waits = refl

reported : there_of seen true 0 ≡ Some 0
reported = refl

not_asked : there_of seen false 0 ≡ None
not_asked = refl

none_at_its_last : number_of (is_last seen) 2 ≡ 0
none_at_its_last = refl

abbrev yard : Yard
yard = record { positions = 1 ∷ 0 ∷ []; table = 0; tried = 0; moves = 1 }

counted : counts_of seen (record { table = corridor; after = 0 } ∷ []) yard 1
    ≡ record { line = 1; moves = 1; table = 0; tried = 0; of = 1; arrived = 0; trains = 2 }
counted = refl

no_more_tables : IsFit (record { table = corridor; after = 0 } ∷ []) yard NoMore
no_more_tables = lit≤ tt
