-- Sections and their lists one after another: where the first refusal comes.
use Rattle.std.proofs.Common.{◌≡◌, ◌∙◌, ℕ, ◌+◌, ◌<◌, ◌≤◌, Bool, true, false, not, ◌==◌, ℤ, List, [], length, get_or, Option, Some, None, refl, sym, ap, arith}
use Rattle.std.proofs.lemmas.Bool.Decides.{nat_tests}
use Rattle.std.proofs.lemmas.List.{get_or_default}
use Rattle.rail_model.specs.Table.{Mission, Section, AreMissions}
use Rattle.rail_model.specs.Turns.{first_below}
use Rattle.rail_model.proofs.Firsts.{first_below-found, first_below-next, first_below-none, option_or-none, then_some-none}
use Rattle.section_marks.specs.declared.marks.Marks.{Marks}
use Rattle.section_marks.specs.declared.refused.MarkRefused.{MarkRefused}
use Rattle.section_marks.specs.declared.refused.MarkRefused.TheVariants.{Count}
use Rattle.section_marks.specs.Marking.{places, changes_of, bad_count, length_refusal, count_refusal, train_refusal, share_refusal, section_refusal, section_at, each_refusal}

section_there : (sections : List Section) (s : ℕ) (x : Section) → s < length sections → x ≡ get_or sections s x → section_at sections s ≡ x
section_there sections s x lt is = get_or_default sections s (record { limit = 0; changes = [] }) x lt ∙ sym is

abbrev at_section : Marks → List Mission → List Section → ℕ → Option MarkRefused
at_section marks missions sections s = section_refusal marks missions s (section_at sections s)

-- the first section that is refused is what is wrong
pub sections_stop : (marks : Marks) (missions : List Mission) (sections : List Section) (s : ℕ) (x : Section) (e : MarkRefused)
    → s < length sections → x ≡ get_or sections s x → Some e ≡ section_refusal marks missions s x
    → first_below s (at_section marks missions sections) ≡ None → each_refusal marks missions sections ≡ Some e
sections_stop marks missions sections s x e lt is h none =
    first_below-found (length sections) s (at_section marks missions sections) e lt none
    (ap (section_refusal marks missions s) (section_there sections s x lt is) ∙ sym h)

-- a section that isn't refused is passed
pub sections_go : (marks : Marks) (missions : List Mission) (sections : List Section) (s : ℕ) (x : Section)
    → s < length sections → x ≡ get_or sections s x → None ≡ section_refusal marks missions s x
    → first_below s (at_section marks missions sections) ≡ None → first_below (s + 1) (at_section marks missions sections) ≡ None
sections_go marks missions sections s x lt is h none =
    first_below-next s (at_section marks missions sections) none (ap (section_refusal marks missions s) (section_there sections s x lt is) ∙ sym h)

-- ---- the numbers of changes

abbrev at_length : List Mission → ℕ → List (List ℤ) → ℕ → Option MarkRefused
at_length missions s changes i = bad_count s i (places missions i) (length (changes_of changes i))

miscounted : (s i a b : ℕ) → (b ≡ a → ⊥) → bad_count s i a b ≡ Some (Count s i)
miscounted s i a b h = by (b == a) refl
  where
    by : (t : Bool) → (b == a) ≡ t → bad_count s i a b ≡ Some (Count s i)
    by true e = absurd (h (grind (arith, nat_tests)))
    by false e = rw e refl

pub lengths_stop : (missions : List Mission) (s : ℕ) (changes : List (List ℤ)) (i : ℕ) → i < length missions → (length (changes_of changes i) ≡ places missions i → ⊥)
    → first_below i (at_length missions s changes) ≡ None → length_refusal missions s changes ≡ Some (Count s i)
lengths_stop missions s changes i lt h none =
    first_below-found (length missions) i (at_length missions s changes) (Count s i) lt none (miscounted s i (places missions i) (length (changes_of changes i)) h)

-- where no count is refused, each train has one change per place
pub lengths_are : (missions : List Mission) (s : ℕ) (changes : List (List ℤ)) (i : ℕ) → count_refusal missions s changes ≡ None → i < length missions
    → length (changes_of changes i) ≡ places missions i
lengths_are missions s changes i h lt =
    let rows = option_or-none (length_refusal missions s changes) _ h in
    counted (places missions i) (length (changes_of changes i)) (then_some-none _ _ (first_below-none (length missions) (at_length missions s changes) rows.0 i lt))
  where
    counted : (a b : ℕ) → not (b == a) ≡ false → b ≡ a
    counted a b h = grind (arith, nat_tests)

pub few_places : (missions : List Mission) (i : ℕ) → AreMissions missions → i < length missions → places missions i ≤ 128
few_places missions i formed lt = let few = (formed.each i lt).few_places in omega arith

-- ---- the shares

abbrev at_train : Marks → List Mission → ℕ → List (List ℤ) → ℕ → Option MarkRefused
at_train marks missions s changes i = train_refusal marks s i (places missions i) (changes_of changes i)

same_train : (marks : Marks) (missions : List Mission) (s : ℕ) (changes : List (List ℤ)) (i : ℕ) (given : List ℤ) → given ≡ changes_of changes i
    → length (changes_of changes i) ≡ places missions i → at_train marks missions s changes i ≡ train_refusal marks s i (length given) given
same_train marks missions s changes i given g size =
    let count : places missions i ≡ length given = sym size ∙ sym (ap length g) in
    λ j. train_refusal marks s i (count j) (sym g j)

pub shares_stop : (marks : Marks) (missions : List Mission) (s : ℕ) (changes : List (List ℤ)) (i : ℕ) (given : List ℤ) (e : MarkRefused) → i < length missions
    → given ≡ changes_of changes i → length (changes_of changes i) ≡ places missions i → Some e ≡ train_refusal marks s i (length given) given
    → first_below i (at_train marks missions s changes) ≡ None → share_refusal marks missions s changes ≡ Some e
shares_stop marks missions s changes i given e lt g size h none =
    first_below-found (length missions) i (at_train marks missions s changes) e lt none (same_train marks missions s changes i given g size ∙ sym h)

pub shares_go : (marks : Marks) (missions : List Mission) (s : ℕ) (changes : List (List ℤ)) (i : ℕ) (given : List ℤ)
    → given ≡ changes_of changes i → length (changes_of changes i) ≡ places missions i → None ≡ train_refusal marks s i (length given) given
    → first_below i (at_train marks missions s changes) ≡ None → first_below (i + 1) (at_train marks missions s changes) ≡ None
shares_go marks missions s changes i given g size h none =
    first_below-next i (at_train marks missions s changes) none (same_train marks missions s changes i given g size ∙ sym h)
