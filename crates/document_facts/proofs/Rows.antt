-- Small cases of what is so of a document.
use Rattle.std.proofs.Common.{◌≡◌, ◌<◌, ℕ, pos, [], ◌∷◌, true, false, refl, zero, suc, arith, inl, inr, lit<, lit≤}
use Rattle.rail_model.specs.Layout.{Link}
use Rattle.rail_model.specs.Table.{Table, Section}
use Rattle.rail_model.specs.State.{remaining}
use Rattle.document_json.specs.Doc.{Doc, table_at}
use Rattle.document_facts.specs.Counting.{AreMore, Counts, IsAmongFirst, IsFirst}
use Rattle.document_facts.specs.Facts.{EndsAtNothing, Holds, IsMet, IsNeverDue, IsPassed, KeepsForGood, StartsFrom, StartsPast, greatest_in}
use Rattle.document_facts.specs.Former.{HoldsSince, IsGone, IsThere}
use Rattle.document_facts.specs.Used.{GoAlong, IsEntered, IsJoined, IsUsed, IsVisited, Joins, LeadsTo, Uses, Visits}
use Rattle.document_facts.specs.declared.fact.Fact.TheVariants.{KeptForGood, SectionLost, SectionRepeated}

-- a section of one train that is in it at its second place
abbrev first : Section
first = record { limit = 1; changes = (pos 0 ∷ pos 1 ∷ []) ∷ (pos 0 ∷ pos 0 ∷ []) ∷ [] }

-- a section in which a train that leaves the layout keeps a share
abbrev kept : Section
kept = record { limit = 1; changes = (pos 0 ∷ pos 0 ∷ []) ∷ (pos 0 ∷ pos 1 ∷ []) ∷ [] }

-- two trains with three sections, of which two are the same
abbrev yard : Table
yard = record {
  missions = record { points = 0 ∷ 1 ∷ []; exits = false } ∷ record { points = 2 ∷ []; exits = true } ∷ [];
  sections = first ∷ kept ∷ first ∷ [];
  connections = [];
}

abbrev way : Link
way = record { first = 1; second = 0 }

-- a document in which the table comes again after three moves
abbrev document : Doc
document = record {
  version = 3;
  layout = record {
    points = record { name = []; zone = 0 } ∷ record { name = []; zone = 1 } ∷ record { name = []; zone = 0 } ∷ [];
    links = way ∷ record { first = 1; second = 2 } ∷ [];
    zones = 2;
  };
  trains = [];
  tables = record { table = yard; after = 0; times = []; nodes = [] } ∷ record { table = yard; after = 3; times = []; nodes = [] } ∷ [];
  start = 0 ∷ 0 ∷ [];
}

two_is_the_first : IsFirst (λ k. k ≡ 2) 5 2
two_is_the_first = (lit< tt, refl, λ j lt e. absurd (omega (arith, lt, e)))

one_of_three : Counts (λ k. k ≡ 1) 3 1
one_of_three = inr (λ e. absurd (omega (arith, e)), inl (refl, (0, refl, inr (λ e. absurd (omega (arith, e)), refl))))

one_among_the_first : IsAmongFirst (λ k. k ≡ 1) 1 1
one_among_the_first = (refl, (0, inr (λ e. absurd (omega (arith, e)), refl), lit< tt))

one_more_than_none : AreMore (λ k. k ≡ 1) 0 3 1
one_more_than_none = (lit< tt, one_of_three)

leads_there : LeadsTo way 0
leads_there = inr refl

second_is_joined : IsJoined document.layout 2
second_is_joined = (1, lit< tt, inr refl)

first_train_comes_to_1 : Visits yard 1
first_train_comes_to_1 = (0, lit< tt, (1, lit< tt, refl))

one_is_visited : IsVisited document 1
one_is_visited = (0, lit< tt, first_train_comes_to_1)

joins_either_way : Joins way 0 1
joins_either_way = inr (refl, refl)

goes_along_at_1 : GoAlong (2 ∷ 1 ∷ 0 ∷ []) way
goes_along_at_1 = (1, lit< tt, inl (refl, refl))

first_train_uses_it : Uses yard way
first_train_uses_it = (0, lit< tt, (0, lit< tt, inr (refl, refl)))

way_is_used : IsUsed document way
way_is_used = (0, lit< tt, first_train_uses_it)

zone_1_is_entered : IsEntered document 1
zone_1_is_entered = (1, lit< tt, (refl, one_is_visited))

shares_up_to_1 : greatest_in 1 ≡ pos 1
shares_up_to_1 = refl

ends_at_0 : EndsAtNothing (pos 1 ∷ pos 1 ∷ pos 0 ∷ [])
ends_at_0 = (λ e. absurd (omega (arith, e)), refl)

second_train_keeps : KeepsForGood yard 1 1
second_train_keeps = (refl, λ e. cc)

starts_there : StartsFrom (0 ∷ 3 ∷ []) 1 3
starts_there = (lit< tt, lit≤ tt)

met_at_the_start : IsMet (0 ∷ 3 ∷ []) (record { train = 0; place = 0; other = 1; reached = 2 })
met_at_the_start = (lit< tt, lit≤ tt)

starts_past_it : StartsPast (0 ∷ 3 ∷ []) 1 2
starts_past_it = (lit< tt, lit< tt)

passed_at_the_start : IsPassed (1 ∷ 0 ∷ []) (record { train = 0; place = 0; other = 1; reached = 2 })
passed_at_the_start = (λ met. absurd (let most = met.1 in omega (arith, most)), (lit< tt, lit< tt))

two_moves_before : (e : ℕ) → e < 1 → remaining (table_at document e) document.start < 3
two_moves_before zero lt = lit< tt
two_moves_before (suc e) lt = absurd (omega arith)

due_after_three_moves : IsNeverDue document 1
due_after_three_moves = (lit< tt, two_moves_before)

third_as_first : Holds document (SectionRepeated 0 2 0)
third_as_first = ((lit< tt, lit< tt), (lit< tt, refl, λ j lt e. absurd (omega (arith, lt))))

second_keeps_for_good : Holds document (KeptForGood 1 1 1)
second_keeps_for_good = (((lit< tt, lit< tt), lit< tt), second_train_keeps)

kept_is_there : IsThere document 0 kept
kept_is_there = (lit< tt, (1, lit< tt, refl))

-- of a document without tables
abbrev empty : Doc
empty = record document { tables = [] }

all_is_gone : IsGone empty document 1 2
all_is_gone = λ there. let lt = there.0 in omega (arith, lt)

gone_is_said : HoldsSince empty document (SectionLost 1 2)
gone_is_said = ((lit< tt, lit< tt), all_is_gone)
