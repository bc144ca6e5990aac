-- The sections of a table have nothing wrong.
use Rattle.std.proofs.Common.{◌≡◌, ◌∙◌, ◌↔◌, ℕ, zero, suc, ◌<◌, ◌≤◌, true, false, not, ◌==◌, ℤ, pos, neg_ℤ, ◌+ℤ◌, ◌≤ℤ◌, List, [], length, None, Ok, refl, sym, ap, subst, arith}
use Rattle.std.specs.Prelude.{nat_lt}
use Rattle.std.specs.Bool.{then_some}
use Rattle.std.proofs.lemmas.Bool.Decides.{nat_tests}
use Rattle.std.proofs.lemmas.Int.{ints}
use Rattle.rail_model.specs.Sums.{total_below}
use Rattle.rail_model.specs.Table.{Table, Mission, Section, AreMissions, IsTable, IsSection, share}
use Rattle.rail_model.specs.Turns.{unless}
use Rattle.rail_model.proofs.Firsts.{first_below-all, first_below-none, option_or-both, option_or-none, then_some-none, unless-ok}
use Rattle.section_marks.specs.declared.marks.Marks.{Marks}
use Rattle.section_marks.specs.declared.refused.MarkRefused.TheVariants.{TooMany, Limit, Count, Step, Share}
use Rattle.section_marks.specs.Keeping.{KeepsTo}
use Rattle.section_marks.specs.Marking.{most_share, most_limit, is_between, places, changes_of, change_at, share_at, too_many, bad_limit, list_too_many, bad_step, bad_share, train_refusal, length_refusal, count_refusal, share_refusal, section_refusal, section_at, each_refusal, sections_refusal, table_from}
use Rattle.section_marks.proofs.Made.{table_of, is_table, up_to, kept}

-- ---- what is taken

few_enough : (most n : ℕ) → n ≤ most → nat_lt most n ≡ false
few_enough most n h = grind (arith, nat_tests)

inside : (low high z : ℤ) → low ≤ℤ z → z ≤ℤ high → is_between low high z ≡ true
inside low high z a b = grind (arith, ints)

-- the change between two shares in range is in range
step_passes : (marks : Marks) (s i k : ℕ) (before change : ℤ) → pos 0 ≤ℤ before → before ≤ℤ pos (most_share marks)
    → pos 0 ≤ℤ (before +ℤ change) → (before +ℤ change) ≤ℤ pos (most_share marks) → bad_step marks s i k change ≡ None
step_passes marks s i k before change a b c d =
    let low : neg_ℤ (pos (most_share marks)) ≤ℤ change = omega (arith, ints) in
    let high : change ≤ℤ pos (most_share marks) = omega (arith, ints) in
    ap (λ t. then_some (not t) (Step s i k change)) (inside (neg_ℤ (pos (most_share marks))) (pos (most_share marks)) change low high)

share_passes : (marks : Marks) (s i k : ℕ) (share : ℤ) → pos 0 ≤ℤ share → share ≤ℤ pos (most_share marks) → bad_share marks s i k share ≡ None
share_passes marks s i k share a b = ap (λ t. then_some (not t) (Share s i k share)) (inside (pos 0) (pos (most_share marks)) share a b)

-- the share before a place is in range too: it is 0 before the first
before_kept : (most : ℕ) (changes : List ℤ) (k : ℕ) → ((j : ℕ) → j ≤ k → (pos 0 ≤ℤ share_at changes j) × (share_at changes j ≤ℤ pos most))
    → (pos 0 ≤ℤ total_below (change_at changes) k) × (total_below (change_at changes) k ≤ℤ pos most)
before_kept most changes zero h = (omega (arith, ints), omega (arith, ints))
before_kept most changes (suc k) h = h k (omega arith)

train_passes : (marks : Marks) (s i places : ℕ) (changes : List ℤ)
    → ((k : ℕ) → k < places → (pos 0 ≤ℤ share_at changes k) × (share_at changes k ≤ℤ pos (most_share marks))) → train_refusal marks s i places changes ≡ None
train_passes marks s i places changes h =
    first_below-all places _ (λ k lt.
    let here = h k lt in
    let before = before_kept (most_share marks) changes k (λ j le. h j (omega arith)) in
    option_or-both (bad_step marks s i k (change_at changes k)) _
    (step_passes marks s i k (total_below (change_at changes) k) (change_at changes k) before.0 before.1 here.0 here.1)
    (option_or-both (bad_share marks s i k (share_at changes k)) None (share_passes marks s i k (share_at changes k) here.0 here.1) refl))

equal_counts : (places count : ℕ) → count ≡ places → not (count == places) ≡ false
equal_counts places count same = grind (arith, nat_tests)

section_passes : (marks : Marks) (missions : List Mission) (sections : List Section) (s : ℕ) → s < length sections → IsSection (table_of missions sections) s
    → KeepsTo marks (table_of missions sections) → section_refusal marks missions s (section_at sections s) ≡ None
section_passes marks missions sections s lt is keeps =
    let S = section_at sections s in
    let each_has : length_refusal missions s S.changes ≡ None = first_below-all (length missions) _
    (λ i within. ap (λ t. then_some t (Count s i)) (equal_counts (places missions i) (length (changes_of S.changes i)) (is.per_place i within))) in
    let no_more : list_too_many s (length missions) (length S.changes) ≡ None =
    let count = is.one_each in ap (λ t. then_some t (Count s (length missions))) (few_enough (length missions) (length S.changes) (omega arith)) in
    let in_range : share_refusal marks missions s S.changes ≡ None = first_below-all (length missions) _
    (λ i within. train_passes marks s i (places missions i) (changes_of S.changes i)
    (λ k there. (is.not_below i k within (omega arith), keeps.shares s i k lt within (omega arith)))) in
    option_or-both (bad_limit marks s S.limit) _ (ap (λ t. then_some t (Limit s S.limit)) (few_enough (most_limit marks) S.limit (keeps.limits s lt)))
    (option_or-both (count_refusal missions s S.changes) _ (option_or-both _ _ each_has (option_or-both _ None no_more refl))
    (option_or-both (share_refusal marks missions s S.changes) None in_range refl))

nothing_wrong : (marks : Marks) (missions : List Mission) (sections : List Section) → IsTable (table_of missions sections) → KeepsTo marks (table_of missions sections)
    → sections_refusal marks missions sections ≡ None
nothing_wrong marks missions sections is keeps =
    option_or-both (too_many (length sections)) _ (ap (λ t. then_some t (TooMany (length sections))) (few_enough 64 (length sections) is.few_sections))
    (option_or-both (each_refusal marks missions sections) None
    (first_below-all (length sections) _ (λ s lt. section_passes marks missions sections s lt (is.sections s lt) keeps)) refl)

-- ---- what is made

keeps_to : (marks : Marks) (missions : List Mission) (sections : List Section) → sections_refusal marks missions sections ≡ None
    → KeepsTo marks (table_of missions sections)
keeps_to marks missions sections h =
    let rows = option_or-none (too_many (length sections)) _ h in
    let row = option_or-none (each_refusal marks missions sections) None rows.1 in
    let each = first_below-none (length sections) (λ s. section_refusal marks missions s (section_at sections s)) row.0 in
    record {
      limits = λ s lt. up_to (most_limit marks) (section_at sections s).limit (then_some-none _ _ (option_or-none (bad_limit marks s (section_at sections s).limit) _ (each s lt)).0);
      shares = λ s i k lt within there.
          let counts = option_or-none (bad_limit marks s (section_at sections s).limit) _ (each s lt) in
          let shares = option_or-none (count_refusal missions s (section_at sections s).changes) _ counts.1 in
          let in_range = option_or-none (share_refusal marks missions s (section_at sections s).changes) None shares.1 in
          (kept marks missions s (section_at sections s).changes i k in_range.0 within (omega arith)).1;
    }

-- Sections are taken exactly where they make a table with the missions, and keep to the marks.
pub sections_taken : (marks : Marks) (missions : List Mission) (sections : List Section) (T : Table) → AreMissions missions
    → (table_from marks missions sections ≡ Ok T) ↔ ((T ≡ record { missions = missions; sections = sections; connections = [] }) × IsTable T × KeepsTo marks T)
unfolding table_from
sections_taken marks missions sections T are = (
  λ h.
      let answer = unless-ok (sections_refusal marks missions sections) (table_of missions sections) T h in
      (sym answer.1, subst IsTable answer.1 (is_table marks missions sections are answer.0), subst (KeepsTo marks) answer.1 (keeps_to marks missions sections answer.0)),
  λ h.
      ap (λ r. unless r (table_of missions sections)) (nothing_wrong marks missions sections (subst IsTable h.0 h.1) (subst (KeepsTo marks) h.0 h.2)) ∙ ap Ok (sym h.0),
)
