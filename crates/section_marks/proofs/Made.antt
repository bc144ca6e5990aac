-- Missions and sections with nothing wrong make a table.
use Rattle.std.proofs.Common.{◌≡◌, ℕ, ◌<◌, ◌≤◌, false, ℤ, pos, ◌≤ℤ◌, List, [], length, Some, None, Ok, Err, sym, ap, arith, inl, inr}
use Rattle.std.specs.Prelude.{nat_lt}
use Rattle.std.proofs.lemmas.Bool.Decides.{nat_tests, leb_tells}
use Rattle.std.proofs.lemmas.Int.{ints}
use Rattle.std.proofs.lemmas.List.{get_or_past}
use Rattle.rail_model.specs.Table.{Table, Mission, Section, AreMissions, IsTable, IsSection}
use Rattle.rail_model.specs.Turns.{unless}
use Rattle.rail_model.proofs.Firsts.{first_below-none, option_or-none, then_some-none}
use Rattle.section_marks.specs.declared.marks.Marks.{Marks}
use Rattle.section_marks.specs.declared.marks.Marks.TheVariants.{One, Four}
use Rattle.section_marks.specs.declared.refused.MarkRefused.{MarkRefused}
use Rattle.section_marks.specs.Marking.{most_share, most_limit, places, changes_of, change_at, share_at, too_many, bad_limit, list_too_many, length_refusal, count_refusal, train_refusal, share_refusal, section_refusal, section_at, each_refusal, sections_refusal, table_from}
use Rattle.section_marks.proofs.TrainShares.{most_4, share_kept}
use Rattle.section_marks.proofs.Sequence.{lengths_are}

abbrev pub table_of : List Mission → List Section → Table
table_of missions sections = record { missions = missions; sections = sections; connections = [] }

pub table_err : (marks : Marks) (missions : List Mission) (sections : List Section) (e : MarkRefused) → Some e ≡ sections_refusal marks missions sections
    → table_from marks missions sections ≡ Err e
unfolding table_from
table_err marks missions sections e h = ap (λ r. unless r (table_of missions sections)) (sym h)

pub table_ok : (marks : Marks) (missions : List Mission) (sections : List Section) → None ≡ sections_refusal marks missions sections
    → table_from marks missions sections ≡ Ok (table_of missions sections)
unfolding table_from
table_ok marks missions sections h = ap (λ r. unless r (table_of missions sections)) (sym h)

most_128 : (marks : Marks) → most_limit marks ≤ 128
most_128 One = omega arith
most_128 Four = omega arith

pub up_to : (most n : ℕ) → nat_lt most n ≡ false → n ≤ most
up_to most n test = grind (arith, nat_tests)

-- there are as many lists as trains
one_each : (missions : List Mission) (s : ℕ) (changes : List (List ℤ)) → count_refusal missions s changes ≡ None → length changes ≡ length missions
one_each missions s changes h =
    let rows = option_or-none (length_refusal missions s changes) _ h in
    let row = option_or-none (list_too_many s (length missions) (length changes)) None rows.1 in
    let most = up_to (length missions) (length changes) (then_some-none _ _ row.0) in
    elim (leb_tells (length missions) (length changes)) [
      | inl e ↦ let least = e.1 in omega arith
      | inr e ↦
          let i = length changes in
          let size : length (changes_of changes i) ≡ places missions i = lengths_are missions s changes i h e.1 in
          let past : changes_of changes i ≡ [] = get_or_past changes i [] (omega arith) in
          let none : length (changes_of changes i) ≡ 0 = ap length past in
          absurd (omega arith)
    ]

-- the shares of a train at its places
pub kept : (marks : Marks) (missions : List Mission) (s : ℕ) (changes : List (List ℤ)) (i k : ℕ) → share_refusal marks missions s changes ≡ None → i < length missions
    → k < places missions i → (pos 0 ≤ℤ share_at (changes_of changes i) k) × (share_at (changes_of changes i) k ≤ℤ pos (most_share marks))
kept marks missions s changes i k h lt there =
    let train = first_below-none (length missions) (λ i. train_refusal marks s i (places missions i) (changes_of changes i)) h i lt in
    share_kept marks s i k (change_at (changes_of changes i) k) (share_at (changes_of changes i) k)
    (first_below-none (places missions i) _ train k there)

is_section : (marks : Marks) (missions : List Mission) (sections : List Section) (s : ℕ) → section_refusal marks missions s (section_at sections s) ≡ None
    → IsSection (table_of missions sections) s
is_section marks missions sections s h =
    let S = section_at sections s in
    let rows = option_or-none (bad_limit marks s S.limit) _ h in
    let counts = option_or-none (count_refusal missions s S.changes) _ rows.1 in
    let shares = option_or-none (share_refusal marks missions s S.changes) None counts.1 in
    let low : S.limit ≤ most_limit marks = up_to (most_limit marks) S.limit (then_some-none _ _ rows.0) in
    let most = most_128 marks in
    let four = most_4 marks in
    record {
      low_limit = omega arith;
      one_each = one_each missions s S.changes counts.0;
      per_place = λ i lt. lengths_are missions s S.changes i counts.0 lt;
      not_below = λ i k lt there. (kept marks missions s S.changes i k shares.0 lt (omega arith)).0;
      not_above = λ i k lt there. let high = (kept marks missions s S.changes i k shares.0 lt (omega arith)).1 in omega (arith, ints);
    }

-- Missions and sections with nothing wrong make a table.
pub is_table : (marks : Marks) (missions : List Mission) (sections : List Section) → AreMissions missions → sections_refusal marks missions sections ≡ None
    → IsTable (table_of missions sections)
is_table marks missions sections formed h =
    let rows = option_or-none (too_many (length sections)) _ h in
    let row = option_or-none (each_refusal marks missions sections) None rows.1 in
    record {
      few_trains = formed.few;
      missions = formed.each;
      few_sections = up_to 64 (length sections) (then_some-none _ _ rows.0);
      sections = λ s lt. is_section marks missions sections s (first_below-none (length sections) (λ s. section_refusal marks missions s (section_at sections s)) row.0 s lt);
      few_connections = omega arith;
      connections = λ c k at. absurd cc;
    }
