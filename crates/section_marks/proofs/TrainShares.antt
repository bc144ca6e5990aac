-- The share of a train, place by place.
use Rattle.std.proofs.Common.{◌≡◌, ◌∙◌, ℕ, suc, ◌+◌, ◌<◌, ◌≤◌, true, ℤ, pos, ◌+ℤ◌, ◌≤ℤ◌, List, length, Option, Some, None, Ok, Err, sym, ap, subst, arith}
use Rattle.std.proofs.lemmas.Int.{ints}
use Rattle.rail_model.specs.Sums.{total_below}
use Rattle.rail_model.specs.Turns.{unless}
use Rattle.rail_model.proofs.Firsts.{unless-ok, unless-err, first_below-found, first_below-next, option_or-none, then_some-none, passing}
use Rattle.section_marks.specs.declared.marks.Marks.{Marks}
use Rattle.section_marks.specs.declared.marks.Marks.TheVariants.{One, Four}
use Rattle.section_marks.specs.declared.refused.MarkRefused.{MarkRefused}
use Rattle.section_marks.specs.Marking.{most_share, is_between, change_at, share_at, bad_step, bad_share, place_refusal, train_refusal}

pub most_4 : (marks : Marks) → most_share marks ≤ 4
most_4 One = omega arith
most_4 Four = omega arith

pub between : (low high z : ℤ) → is_between low high z ≡ true → (low ≤ℤ z) × (z ≤ℤ high)
between low high z h = (grind (arith, ints), grind (arith, ints))

-- a place that isn't refused has a share in range
pub share_kept : (marks : Marks) (s i k : ℕ) (change share : ℤ) → place_refusal marks s i k change share ≡ None → (pos 0 ≤ℤ share) × (share ≤ℤ pos (most_share marks))
share_kept marks s i k change share h =
    let rows = option_or-none (bad_step marks s i k change) _ h in
    let row = option_or-none (bad_share marks s i k share) None rows.1 in
    between (pos 0) (pos (most_share marks)) share (passing _ (then_some-none _ _ row.0))

abbrev at_place : Marks → ℕ → ℕ → List ℤ → ℕ → Option MarkRefused
at_place marks s i changes k = place_refusal marks s i k (change_at changes k) (share_at changes k)

same_place : (marks : Marks) (s i : ℕ) (changes : List ℤ) (k : ℕ) (before change share : ℤ) → before ≡ total_below (change_at changes) k → change ≡ change_at changes k
    → place_refusal marks s i k change (before +ℤ change) ≡ at_place marks s i changes k
same_place marks s i changes k before change share b c = λ j. place_refusal marks s i k (c j) (b j +ℤ c j)

-- the first place that is refused is what is wrong with the train
pub train_stops : (marks : Marks) (s i : ℕ) (changes : List ℤ) (k : ℕ) (before change : ℤ) (e : MarkRefused) → k < length changes
    → before ≡ total_below (change_at changes) k → change ≡ change_at changes k
    → Err e ≡ unless (place_refusal marks s i k change (before +ℤ change)) (before +ℤ change)
    → train_refusal marks s i k changes ≡ None → train_refusal marks s i (length changes) changes ≡ Some e
train_stops marks s i changes k before change e lt b c h none =
    let here = sym (same_place marks s i changes k before change before b c) ∙ unless-err _ (before +ℤ change) e (sym h) in
    first_below-found (length changes) k (at_place marks s i changes) e lt none here

-- What holds of the share at a place that isn't refused.
pub record Kept (marks : Marks) (s i : ℕ) (changes : List ℤ) (k : ℕ) (share : ℤ) : Type 0 where
  pub is : share ≡ total_below (change_at changes) (k + 1)
  pub low : pos 0 ≤ℤ share
  pub high : share ≤ℤ pos (most_share marks)
  pub passed : train_refusal marks s i (k + 1) changes ≡ None

pub train_goes : (marks : Marks) (s i : ℕ) (changes : List ℤ) (k : ℕ) (before change share : ℤ)
    → before ≡ total_below (change_at changes) k → change ≡ change_at changes k
    → Ok share ≡ unless (place_refusal marks s i k change (before +ℤ change)) (before +ℤ change)
    → train_refusal marks s i k changes ≡ None → Kept marks s i changes k share
train_goes marks s i changes k before change share b c h none =
    let made = unless-ok _ (before +ℤ change) share (sym h) in
    let kept = share_kept marks s i k change (before +ℤ change) made.0 in
    let next : k + 1 ≡ suc k = omega arith in
    record {
      is = sym made.1 ∙ (λ j. b j +ℤ c j) ∙ sym (ap (total_below (change_at changes)) next);
      low = subst (λ z. pos 0 ≤ℤ z) made.1 kept.0;
      high = subst (λ z. z ≤ℤ pos (most_share marks)) made.1 kept.1;
      passed = first_below-next k (at_place marks s i changes) none (sym (same_place marks s i changes k before change before b c) ∙ made.0);
    }
