-- A table with connections, or the first thing that is wrong with them.
use Rattle.std.specs.Prelude.{ℕ, List, [], ◌∷◌, length, not, ◌&&◌, ◌==◌, nat_lt, nat_le, slice_index_or, Option, Result}
use Rattle.std.specs.Bool.{then_some}
use Rattle.rail_model.specs.Table.{Table, Connection, trains, last}
use Rattle.rail_model.specs.Turns.{first_of, first_below, unless}
use Rattle.section_marks.specs.declared.refused.MarkRefused.{MarkRefused}
use Rattle.section_marks.specs.declared.refused.MarkRefused.TheVariants.{Connections, ConnectionTrain, ConnectionPlace}

-- the connection with a number
abbrev pub connection_at : List Connection → ℕ → Connection
connection_at list c = slice_index_or list c (record { train = 0; place = 0; other = 0; reached = 0 })

-- too many connections
abbrev pub too_many : ℕ → Option MarkRefused
too_many count = then_some (nat_lt 32 count) (Connections count)

-- the connection isn't one of two different trains
abbrev pub bad_trains : Table → ℕ → Connection → Option MarkRefused
bad_trains T c k =
    then_some (not (nat_lt k.train (trains T) && nat_lt k.other (trains T) && not (k.train == k.other))) (ConnectionTrain c)

-- the train can't leave the place, or the other can't reach its place
abbrev pub bad_places : Table → ℕ → Connection → Option MarkRefused
bad_places T c k =
    then_some (not (nat_lt k.place (last T k.train) && nat_le k.reached (last T k.other))) (ConnectionPlace c)

-- what is wrong with a connection
abbrev pub connection_refusal : Table → ℕ → Connection → Option MarkRefused
connection_refusal T c k = first_of (bad_trains T c k ∷ bad_places T c k ∷ [])

-- what is wrong with the connections, one after another
abbrev pub each_refusal : Table → List Connection → Option MarkRefused
each_refusal T list = first_below (length list) (λ c. connection_refusal T c (connection_at list c))

-- what is wrong with the connections, in the order in which it is reported
abbrev pub connections_refusal : Table → List Connection → Option MarkRefused
connections_refusal T list =
    first_of (
    too_many (length list)
    ∷ each_refusal T list
    ∷ [])

-- the table with these connections in place of its own, or the first refusal
unfoldable pub connected : Table → List Connection → Result Table MarkRefused
connected T list = unless (connections_refusal T list) (record T { connections = list })
