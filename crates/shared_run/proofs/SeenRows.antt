-- Rows: a history has a pass's entries only where it begins with all that the pass has seen. A table lengthens a mission: after its exchange
-- a block of the train has three steps, and a history in which it has two isn't a crew's.
use Rattle.std.proofs.Common.{◌≡◌, ℕ, zero, suc, ◌<◌, List, [], ◌∷◌, ◌++◌, length, refl, sym, ap, ◌∙◌, subst, arith, lit<, inl, inr}
use Rattle.std.specs.Prelude.{replicate}
use Rattle.std.specs.List.{All}
use Rattle.std.proofs.lemmas.List.Elements.{All-head}
use Rattle.rail_model.specs.declared.types.Ask.{Ask}
use Rattle.rail_model.specs.declared.types.Entry.{Entry}
use Rattle.rail_model.specs.declared.types.Reply.{Reply as EntryReply}
use Rattle.rail_model.specs.declared.types.Reply.TheVariants.{Control, NotWhole}
use Rattle.rail_model.specs.declared.types.Tried.TheVariants.{Exchanged}
use Rattle.rail_model.specs.Table.{Table}
use Rattle.zone_yard.specs.declared.replies.Reply.{Reply}
use Rattle.zone_yard.specs.declared.replies.Reply.TheVariants as one
use Rattle.zone_yard.specs.declared.replies.BlockReply.{BlockReply}
use Rattle.zone_yard.specs.declared.replies.BlockReply.TheVariants as block
use Rattle.zone_yard.specs.Setup.{SharedYard}
use Rattle.zone_yard.specs.Passes.{Pass, Receipt, StartsWith, receipts_from, told, entries_of}
use Rattle.zone_yard.specs.Entering.{Enters}
use Rattle.zone_yard.specs.Replies.{Replies, BlockReplies, IsGranted, IsUnhindered, steps_after}
use Rattle.zone_yard.proofs.Samples.{layout_of, table_of, yard_of, boarded, grant, yes}
use Rattle.zone_yard.proofs.Rows.{goes, enters}
use Rattle.shared_run.specs.declared.rounds.Round.{Round}
use Rattle.shared_run.specs.declared.rounds.Round.TheVariants.{One, Block, Halved}
use Rattle.shared_run.specs.Rounds.{GoesRound, AllGoRound, MakesRounds, HasFinished, EndsAtFirst, Worked}
use Rattle.shared_run.specs.Crews.{crew_of}
use Rattle.shared_run.specs.Shared.{IsRecorded, IsWorked}

-- A to C beside E to F, and a second table in which the first train goes on to D
abbrev missions_to : List ℕ → Table
missions_to first = table_of (first ∷ (4 ∷ 5 ∷ []) ∷ [])

abbrev lengthened : SharedYard
lengthened = yard_of (layout_of 1 (0 ∷ 0 ∷ 0 ∷ 0 ∷ 0 ∷ 0 ∷ [])) (missions_to (0 ∷ 1 ∷ 2 ∷ []) ∷ missions_to (0 ∷ 1 ∷ 2 ∷ 3 ∷ []) ∷ []) 2 9

abbrev first : Pass
first = boarded lengthened 0

abbrev exchange : Entry
exchange = record { who = 32; reply = Control Exchanged }

-- the exchange, two steps of the first train, and one of the other
abbrev two_steps : List Entry
two_steps = exchange ∷ yes 0 ∷ yes 0 ∷ yes 1 ∷ []

-- the first train's entries in it
abbrev both_steps : List Receipt
both_steps = record { ticket = 1; entry = yes 0 } ∷ record { ticket = 2; entry = yes 0 } ∷ []

-- a pass with these entries that has seen another history: the other train's step came first, and the second table isn't in force
abbrev astray : Pass
astray = record first { position = 2; seen = yes 1 ∷ yes 0 ∷ yes 0 ∷ []; mine = both_steps }

-- there its block of four was granted whole
granted_astray : BlockReplies 4 first (block.Granted 1 2) astray
granted_astray = (
  lit< tt,
  (
    enters first (yes 1 ∷ []) (grant ∷ grant ∷ []) 2 refl refl (refl, refl) (
      (lit< tt, goes (missions_to (0 ∷ 1 ∷ 2 ∷ [])) (0 ∷ 0 ∷ []) 1 refl),
      ((lit< tt, goes (missions_to (0 ∷ 1 ∷ 2 ∷ [])) (0 ∷ 1 ∷ []) 0 refl), ((lit< tt, goes (missions_to (0 ∷ 1 ∷ 2 ∷ [])) (1 ∷ 1 ∷ []) 0 refl), tt)),
    ),
    refl,
  ),
)

-- the history has the pass's entries, but doesn't begin with what the pass has seen
same_entries : entries_of 0 two_steps ≡ astray.mine
same_entries = refl

not_begun : IsRecorded two_steps astray → ⊥
not_begun is = cc is.begins.1

-- after the exchange three steps remain
not_two : (before : List Entry) → length before ≡ 1 → StartsWith two_steps (before ++ told 0 (grant ∷ grant ∷ [])) → 2 ≡ steps_after first before 4 → ⊥
not_two [] one begins steps = omega (arith, one)
not_two (e ∷ []) one begins steps =
    let same : e ≡ exchange = cc begins.1 in
    let wrong : 2 ≡ 3 = subst (λ x. 2 ≡ steps_after first (x ∷ []) 4) same steps in
    cc wrong
not_two (e ∷ f ∷ more) one begins steps = omega (arith, one)

-- the place and the answer of the first of some entries
abbrev ticket_of : List Receipt → ℕ
ticket_of [] = 0
ticket_of (r ∷ later) = r.ticket

abbrev reply_of : List Receipt → EntryReply
reply_of [] = grant
reply_of (r ∷ later) = r.entry.reply

module _ (new : Pass) (recorded : IsRecorded two_steps new) where
  -- what was entered is what the history has
  entered : (ticket : ℕ) (replies : List EntryReply) → Enters ticket replies first new → both_steps ≡ receipts_from ticket (told 0 replies)
  entered ticket replies e = subst (λ n. entries_of n two_steps ≡ new.mine) e.number recorded.entries ∙ e.mine

  not_granted : (ticket steps : ℕ) → IsGranted 4 first ticket steps new → ⊥
  not_granted ticket zero g = cc (entered ticket [] g.1.0)
  not_granted ticket (suc zero) g = cc (entered ticket (grant ∷ []) g.1.0)
  not_granted ticket (suc (suc zero)) g =
      let e = g.1.0 in
      let at : ticket ≡ 1 = sym (ap ticket_of (entered ticket (grant ∷ grant ∷ []) e)) in
      not_two e.before (e.counted ∙ at) (subst (StartsWith two_steps) e.seen recorded.begins) g.1.1
  not_granted ticket (suc (suc (suc more))) g = cc (entered ticket (replicate (suc (suc (suc more))) grant) g.1.0)

  -- one entry is too few
  not_one : (ticket : ℕ) (reply : EntryReply) (pass : Pass) → Enters ticket (reply ∷ []) first pass → entries_of pass.number two_steps ≡ pass.mine → ⊥
  not_one ticket reply pass e has =
      let single : both_steps ≡ receipts_from ticket (told 0 (reply ∷ [])) = subst (λ n. entries_of n two_steps ≡ pass.mine) e.number has ∙ e.mine in
      cc single

  not_told : (ticket : ℕ) (reply : EntryReply) → Enters ticket (reply ∷ []) first new → ⊥
  not_told ticket reply e = not_one ticket reply new e recorded.entries

  no_block : (reply : BlockReply) → GoesRound 4 (Block reply) first new → ⊥
  no_block (block.Granted ticket steps) g = not_granted ticket steps g.1
  no_block (block.NotWhole ticket step answer) g = g.3
  no_block (block.Occupied ticket by) g = not_told ticket _ g.1.1
  no_block (block.Full ticket s n) g = not_told ticket _ g.1.1
  no_block (block.Waits ticket c) g = not_told ticket _ g.1.1
  no_block (block.Arrived ticket) g = not_told ticket _ g.1.1
  no_block (block.Busy zone holder) g = g.2
  no_block block.Spent g = let none = g.1.0 in omega (arith, none)

  -- a block that wasn't granted whole is the pass's first entry
  not_after : (ticket later step : ℕ) (answer : Ask) (reply : EntryReply) (middle : Pass) → Enters ticket (NotWhole step answer ∷ []) first middle
      → Enters later (reply ∷ []) middle new → ⊥
  not_after ticket later step answer reply middle e f =
      let rest = receipts_from later (told middle.number (reply ∷ [])) in
      let halved : both_steps ≡ receipts_from ticket (told 0 (NotWhole step answer ∷ [])) ++ rest =
      subst (λ n. entries_of n two_steps ≡ new.mine) (f.number ∙ e.number) recorded.entries ∙ f.mine ∙ ap (λ (l : List Receipt). l ++ rest) e.mine in
      let other : grant ≡ NotWhole step answer = ap reply_of halved in
      cc other

  no_halved : (ticket step : ℕ) (answer : Ask) (middle : Pass) (reply : Reply) → Enters ticket (NotWhole step answer ∷ []) first middle → Replies middle reply new
      → IsUnhindered reply → ⊥
  no_halved ticket step answer middle (one.Granted later) e r served = not_after ticket later step answer _ middle e r.1
  no_halved ticket step answer middle (one.Occupied later by) e r served = not_after ticket later step answer _ middle e r.1
  no_halved ticket step answer middle (one.Full later s n) e r served = not_after ticket later step answer _ middle e r.1
  no_halved ticket step answer middle (one.Waits later c) e r served = not_after ticket later step answer _ middle e r.1
  no_halved ticket step answer middle (one.Arrived later) e r served = not_after ticket later step answer _ middle e r.1
  no_halved ticket step answer middle (one.Busy zone holder) e r served = served
  no_halved ticket step answer middle one.Spent e r served = not_one ticket _ middle e (subst (IsRecorded two_steps) r.1.0 recorded).entries

  no_round : (round : Round) → GoesRound 4 round first new → ⊥
  no_round (One reply) g = let single = g.0 in omega (arith, single)
  no_round (Block reply) g = no_block reply g
  no_round (Halved ticket step answer reply) g = no_halved ticket step answer g.1.0 reply g.1.1.1.0 g.1.2 g.1.3

-- a worker with both trains goes its one round
not_worked : (news : List Pass) → Worked 1 4 (first ∷ boarded lengthened 1 ∷ []) news → All (IsRecorded two_steps) news → ⊥
not_worked news worked recorded = rounds worked.told worked.made worked.ends
  where
    one_round : (told : List Round) (news : List Pass) → AllGoRound 4 told (first ∷ boarded lengthened 1 ∷ []) news → All (IsRecorded two_steps) news → ⊥
    one_round [] [] none recorded = none
    one_round [] (n ∷ news) none recorded = none
    one_round (r ∷ told) [] none recorded = none
    one_round (r ∷ told) (n ∷ news) gone recorded = no_round n (All-head (IsRecorded two_steps) n news recorded) r gone.0

    rounds : (told : List (List Round)) → MakesRounds 4 told (first ∷ boarded lengthened 1 ∷ []) news → EndsAtFirst HasFinished 1 told → ⊥
    rounds [] made ends = omega (arith, ends)
    rounds (round ∷ []) made ends = one_round round news (subst (λ ps. AllGoRound 4 round ps news) made.1 made.2) recorded
    rounds (round ∷ earlier ∷ more) made ends = elim ends.1 [
      | inl all ↦ omega (arith, all)
      | inr few ↦ let lt = few.0 in omega (arith, lt)
    ]

-- so a crew of one worker with both trains makes no such history in one round of blocks of four
no_crew : IsWorked lengthened (crew_of 1 1 4) two_steps → ⊥
no_crew is = not_worked (is.drivers 0) (is.worked 0 (lit< tt)) (is.recorded 0 (lit< tt))
