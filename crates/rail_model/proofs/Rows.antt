-- Worked examples of the definitions on small tables, called rows: a value, what a definition says of it, and the checker's computation.
use Rattle.std.proofs.Common.{◌≡◌, ◌∷◌, [], pos, true, false, Some, None, refl, lit<}
use Rattle.std.specs.Prelude.{codes}
use Rattle.std.specs.List.{list_all}
use Rattle.std.proofs.lemmas.Fmt.{decimal_digit}
use Rattle.rail_model.specs.declared.types.Node.TheVariants.{Split, Clash, Overfull, Arrived, Move}
use Rattle.rail_model.specs.declared.types.Ask.TheVariants.{Yes, Arrived as AtEnd, Occupied, Full, Waits}
use Rattle.rail_model.specs.declared.types.Tried.TheVariants.{Exchanged, Differs, Over}
use Rattle.rail_model.specs.declared.types.Line.TheVariants.{Move as MoveLine, KeptOver}
use Rattle.rail_model.specs.Table.{share, count, last, point}
use Rattle.rail_model.specs.State.{remaining}
use Rattle.rail_model.specs.Move.{IsHeldBy}
use Rattle.rail_model.specs.Certificate.{preorder, full_box, range, visits, least_share, greatest_share, most_with}
use Rattle.rail_model.specs.Checks.{is_good, ask, admitted, is_due}
use Rattle.rail_model.specs.Yard.{opening, after}
use Rattle.rail_model.specs.Lines.{journal_of}
use Rattle.rail_model.specs.Layout.{home}
use Rattle.rail_model.specs.Times.{time}
use Rattle.rail_model.specs.Naming.{is_name, first_double}
use Rattle.rail_model.specs.Journal.{text}
use Rattle.rail_model.proofs.Samples.{corridor, leaving, names, waiting, tree, loop, loop_tree, shut_corridor, one_train, offered, history}

share_inside : share corridor 0 0 2 ≡ pos 1
share_inside = refl

share_behind : share corridor 0 0 3 ≡ pos 0
share_behind = refl

count_of_one : count corridor 0 (1 ∷ 0 ∷ []) ≡ pos 1
count_of_one = refl

count_of_two : count corridor 0 (1 ∷ 1 ∷ []) ≡ pos 2
count_of_two = refl

six_remain : remaining corridor (0 ∷ 0 ∷ []) ≡ 6
six_remain = refl

exit_place : last leaving 0 ≡ 2
exit_place = refl

exit_point : point leaving 0 2 ≡ None
exit_point = refl

last_point : point leaving 0 1 ≡ Some 1
last_point = refl

four_remain : remaining leaving (0 ∷ 0 ∷ []) ≡ 4
four_remain = refl

full_range : range (full_box leaving) 1 ≡ record { lo = 0; hi = 2 }
full_range = refl

printed : text names (record { lines = MoveLine 0 0 (Some 1) ∷ MoveLine 0 1 None ∷ []; moves = 2; tables = 0 })
    ≡ codes "1 move T0 A B\n2 move T0 B -\nend moves=2 tables=0\n"
printed = rw (decimal_digit 1 (lit< tt), decimal_digit 2 (lit< tt), decimal_digit 0 (lit< tt)) refl

held : IsHeldBy waiting (0 ∷ 0 ∷ []) 0 0
held = (record { train = 0; place = 0; other = 1; reached = 1 }, refl, refl, refl, lit< tt)

spelled : preorder tree ≡ Split 0 0 ∷ Split 1 0 ∷ Move 1 ∷ Move 0 ∷ Split 1 0 ∷ Move 1 ∷ Arrived ∷ []
spelled = refl

loop_spelled : preorder loop_tree
    ≡ Split 0 0 ∷ Move 0 ∷ Split 1 0 ∷ Split 0 1 ∷ Move 1 ∷ Clash 0 1 ∷ Split 0 1 ∷ Move 0 ∷ Split 1 1 ∷ Move 1 ∷ Arrived ∷ []
loop_spelled = refl

-- every node is good in its own box
loop_shut : list_all (λ v. is_good loop v.0 v.1) (visits (full_box loop) loop_tree) ≡ true
loop_shut = refl

-- at L1 and E the first train has no sure move
loop_blocked : is_good loop (record { lo = 1; hi = 1 } ∷ record { lo = 0; hi = 0 } ∷ []) (Move 0) ≡ false
loop_blocked = refl

-- what the trains of the corridor are told, in turn
asked_first : ask corridor (0 ∷ 0 ∷ []) 0 ≡ Yes
asked_first = refl

asked_full : ask corridor (1 ∷ 0 ∷ []) 1 ≡ Full 0 1
asked_full = refl

asked_occupied : ask corridor (2 ∷ 0 ∷ []) 1 ≡ Occupied 0
asked_occupied = refl

asked_arrived : ask corridor (3 ∷ 1 ∷ []) 0 ≡ AtEnd
asked_arrived = refl

asked_waits : ask waiting (0 ∷ 0 ∷ []) 0 ≡ Waits 0
asked_waits = refl

kept_over : admitted corridor shut_corridor (1 ∷ 0 ∷ []) ≡ Over 0 1
kept_over = refl

shut_node : is_good shut_corridor (full_box shut_corridor) (Overfull 0) ≡ true
shut_node = refl

-- A B A C against A D A C, after two moves
kept_differs : admitted (one_train (0 ∷ 1 ∷ 0 ∷ 2 ∷ [])) (one_train (0 ∷ 3 ∷ 0 ∷ 2 ∷ [])) (2 ∷ []) ≡ Differs 0 1
kept_differs = refl

-- A B C against A B C D: an arrived train goes on
goes_on : admitted (one_train (0 ∷ 1 ∷ 2 ∷ [])) (one_train (0 ∷ 1 ∷ 2 ∷ 3 ∷ [])) (2 ∷ []) ≡ Exchanged
goes_on = refl

due_by_moves : is_due (one_train (0 ∷ 1 ∷ 2 ∷ [])) (1 ∷ []) 1 1 ≡ true
due_by_moves = refl

due_by_arrival : is_due (one_train (0 ∷ 1 ∷ 2 ∷ [])) (2 ∷ []) 2 99 ≡ true
due_by_arrival = refl

not_yet_due : is_due (one_train (0 ∷ 1 ∷ 2 ∷ [])) (1 ∷ []) 1 2 ≡ false
not_yet_due = refl

after_history : after (opening (0 ∷ 0 ∷ [])) history ≡ record { positions = 1 ∷ 0 ∷ []; table = 0; tried = 1; moves = 1 }
after_history = refl

lines_of_history : journal_of offered (opening (0 ∷ 0 ∷ [])) history ≡ MoveLine 0 0 (Some 1) ∷ KeptOver 1 0 1 ∷ []
lines_of_history = refl

-- the least and the greatest share of the second train of the corridor after its start
least_inside : least_share corridor (record { lo = 0; hi = 0 } ∷ record { lo = 1; hi = 2 } ∷ []) 0 1 ≡ pos 1
least_inside = refl

greatest_inside : greatest_share corridor (record { lo = 0; hi = 0 } ∷ record { lo = 2; hi = 3 } ∷ []) 0 1 ≡ pos 1
greatest_inside = refl

most_in_corridor : most_with corridor (record { lo = 0; hi = 0 } ∷ record { lo = 1; hi = 2 } ∷ []) 0 0 1 ≡ pos 2
most_in_corridor = refl

-- section 5 of a layout of four zones
home_of_five : home (record { points = []; links = []; zones = 4 }) 5 ≡ 1
home_of_five = refl

second_step : time (((3 ∷ 4 ∷ []) ∷ []) ∷ []) 0 0 1 ≡ 4
second_step = refl

plain_name : is_name (codes "T_0") ≡ true
plain_name = refl

no_name : is_name (codes "T-0") ≡ false
no_name = refl

doubled : first_double (codes "A" ∷ codes "B" ∷ codes "A" ∷ []) ≡ Some (0, 2)
doubled = refl
