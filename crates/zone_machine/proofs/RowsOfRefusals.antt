-- Worked rows: each refusal, at each step that it can meet.
use Rattle.zone_machine.proofs.Prelude.{◌≡◌, [], ◌∷◌, ◌++◌, Ok, Err, refl, control, Point, Position, Board, Glance, Take, Read, Append, Block, Pay, Release, Leave}
use Rattle.move_claim.specs.declared.cells.Cell.TheVariants.{Table}
use Rattle.zone_machine.specs.declared.steps.Seen.TheVariants as seen
use Rattle.zone_machine.specs.declared.steps.NotAllowed.TheVariants as no
use Rattle.zone_machine.proofs.Samples.{apart, sees, by}

-- an actor that is away boards and does nothing else, one aboard doesn't board, and who has left does nothing
away : sees apart [] 0 Glance ≡ Err (no.Actor 0)
away = refl

boarded : sees apart (by 0 (Board ∷ [])) 0 Board ≡ Err (no.Actor 0)
boarded = refl

left : sees apart (by 0 (Board ∷ Leave ∷ [])) 0 Board ≡ Err (no.Actor 0)
left = refl

-- the least zone that is held stands in the way of a glance and of leaving
glances : sees apart (by 0 (Board ∷ Take 1 ∷ Take 2 ∷ [])) 0 Glance ≡ Err (no.Held 1)
glances = refl

leaves : sees apart (by 0 (Board ∷ Take 1 ∷ Take 2 ∷ [])) 0 Leave ≡ Err (no.Held 1)
leaves = refl

-- who gives its zones back takes none, reads nothing and adds no entry
takes_closing : sees apart (by 0 (Board ∷ Take 0 ∷ Take 1 ∷ Release 1 ∷ [])) 0 (Take 2) ≡ Err no.Closing
takes_closing = refl

reads_closing : sees apart (by 0 (Board ∷ Take 0 ∷ Take 1 ∷ Release 1 ∷ [])) 0 (Read (Point 0)) ≡ Err no.Closing
reads_closing = refl

appends_closing : sees apart (by 0 (Board ∷ Take 0 ∷ Take 1 ∷ Release 1 ∷ [])) 0 Append ≡ Err no.Closing
appends_closing = refl

block_closing : sees apart (by 0 (Board ∷ Take 0 ∷ Take 1 ∷ Release 1 ∷ [])) 0 (Block 2) ≡ Err no.Closing
block_closing = refl

-- and with its last zone it is free again
free_again : sees apart (by 0 (Board ∷ Take 0 ∷ Release 0 ∷ [])) 0 (Take 2) ≡ Ok seen.Taken
free_again = refl

-- a zone that is given back has to be there and held
releases_none : sees apart (by 0 (Board ∷ Take 0 ∷ [])) 0 (Release 4) ≡ Err (no.Zone 4)
releases_none = refl

releases_other : sees apart (by 0 (Board ∷ Take 0 ∷ []) ++ by 1 (Board ∷ Take 1 ∷ [])) 0 (Release 1) ≡ Err (no.Zone 1)
releases_other = refl

-- a zone that is held isn't above itself
takes_again : sees apart (by 0 (Board ∷ Take 1 ∷ [])) 0 (Take 1) ≡ Err (no.Order 1)
takes_again = refl

-- no such point, train or section, and each cell without its guard
no_point : sees apart (by 0 (Board ∷ Take 0 ∷ [])) 0 (Read (Point 6)) ≡ Err (no.Cell (Point 6))
no_point = refl

no_train : sees apart (by 0 (Board ∷ Take 0 ∷ Take 1 ∷ Take 2 ∷ Take 3 ∷ [])) 0 (Read (Position 3)) ≡ Err (no.Cell (Position 3))
no_train = refl

no_table : sees apart (by 0 (Board ∷ [])) 0 (Read Table) ≡ Err (no.Cell Table)
no_table = refl

own_position : sees apart (by 0 (Board ∷ Take 0 ∷ [])) 0 (Read (Position 0)) ≡ Err (no.Cell (Position 0))
own_position = refl

-- a cell that isn't owed, and one that was paid
not_owed : sees apart (by 0 (Board ∷ Take 0 ∷ [])) 0 (Pay (Point 0)) ≡ Err (no.Cell (Point 0))
not_owed = refl

paid_twice : sees apart (by 0 (Board ∷ Take 0 ∷ Take 1 ∷ Read Table ∷ Read (Point 1) ∷ Append ∷ Pay (Point 0) ∷ [])) 0 (Pay (Point 0)) ≡ Err (no.Cell (Point 0))
paid_twice = refl

-- a block of no step
no_step : sees apart (by 0 (Board ∷ [])) 0 (Block 0) ≡ Err (no.Steps 0)
no_step = refl

-- the control needs every zone, then every position
control_zone : sees apart (by control (Board ∷ Take 0 ∷ Take 1 ∷ Take 3 ∷ Read Table ∷ [])) control Append ≡ Err (no.Zone 2)
control_zone = refl

control_position : sees apart (by control (Board ∷ Take 0 ∷ Take 1 ∷ Take 2 ∷ Take 3 ∷ Read Table ∷ Read (Position 0) ∷ [])) control Append ≡ Err (no.Unknown (Position 1))
control_position = refl
