-- A text around the first `{}` in it.
use Rattle.std.proofs.Common.{◌≡◌, ℕ, zero, suc, ◌<◌, ◌≤◌, List, [], ◌∷◌, ◌++◌, length, take, drop, false, ◌==◌, ◌&&◌, refl, ap, ◌∙◌, inl, inr, arith, eqb-true, eq-eqb, codes, append_assoc, get_or, Option, Some, None, Bor}
use Rattle.std.specs.Prelude.{MatchOption, option_copied}
use Rattle.std.proofs.lemmas.Bool.{and_parts, cases_Bool}
use Rattle.std.specs.Str.Pattern.{FindsText, FindsTextPrefix, LacksTextAt, SplitsAroundMatch, StripsPrefix}
use Rattle.plan_patterns.specs.Numbered.{closes, numbered_text}
use Rattle.plan_patterns.specs.Ways.{behind}

-- where no `{}` stands, a byte isn't a `{` before a `}`
no_pair : (b : ℕ) (text : List ℕ) → LacksTextAt (codes "{}") (b ∷ text) 0 → ((b == 123) && closes text) ≡ false
no_pair b [] lacks = elim (cases_Bool (b == 123)) [ inl is ↦ rw is | inr other ↦ rw other ]
no_pair b (c ∷ text) lacks =
    elim (cases_Bool ((b == 123) && (c == 125))) [
      | inl both ↦
          let (opens, ends) = and_parts (b == 123) (c == 125) both in
          let b_is : b ≡ 123 = eqb-true b 123 opens in
          let c_is : c ≡ 125 = eqb-true c 125 ends in
          absurd (lacks text (rw (b_is, c_is)))
      | inr other ↦ other
    ]

-- a text without `{}` stays
pub without_braces : (number text : List ℕ) → ((i : ℕ) → i ≤ length text → LacksTextAt (codes "{}") text i) → numbered_text number text ≡ text
without_braces number [] lacks = refl
without_braces number (b ∷ text) lacks =
    rw (no_pair b text (lacks 0 (omega arith))) (ap (λ rest. b ∷ rest) (without_braces number text (λ i within. lacks (suc i) (omega arith))))

-- up to its first `{}` a text stays, and then come the number and what follows
pub first_braces : (number text rest : List ℕ) (i : ℕ) → ((k : ℕ) → k < i → LacksTextAt (codes "{}") text k) → drop i text ≡ codes "{}" ++ rest
    → numbered_text number text ≡ take i text ++ (number ++ numbered_text number rest)
first_braces number text rest zero lacks here = rw here
first_braces number [] rest (suc i) lacks here = absurd (omega (arith, ap length here))
first_braces number (b ∷ text) rest (suc i) lacks here =
    rw (no_pair b text (lacks 0 (omega arith))) (ap (λ t. b ∷ t) (first_braces number text rest i (λ k below. lacks (suc k) (omega arith)) here))

-- what is behind a `{}` is shorter
pub shorter : (text front back : List ℕ) → SplitsAroundMatch (FindsText (codes "{}")) text front back → length back < length text
shorter text front back split = omega (arith, split.7, split.2.1.ends)

-- one `{}` more is done
pub next_braces : (number done text front back all : List ℕ) → SplitsAroundMatch (FindsText (codes "{}")) text front back
    → done ++ numbered_text number text ≡ all → ((done ++ front) ++ number) ++ numbered_text number back ≡ all
next_braces number done text front back all split sofar =
    let first = first_braces number text (drop split.1 text) split.0 split.2.0 split.2.1.split in
    rw (split.3, split.4, append_assoc, append_assoc, ← first) sofar

-- the text behind a sign is what is left without it
pub stripped : (sign : ℕ) (text : List ℕ) (r : Option (Bor (List ℕ))) → MatchOption r (FindsTextPrefix (sign ∷ []) text None) (λ x. StripsPrefix (FindsTextPrefix (sign ∷ [])) text x.now)
    → option_copied r ≡ behind sign text
stripped sign [] None lacks = refl
stripped sign (b ∷ text) None lacks = elim (cases_Bool (b == sign)) [
  | inl same ↦ absurd (lacks text (ap (λ x. x ∷ text) (eqb-true b sign same)))
  | inr other ↦ rw other
]
stripped sign [] (Some x) has = absurd (omega (arith, ap length has.1.1))
stripped sign (b ∷ text) (Some x) has =
    let same : b ≡ sign = ap (λ t. get_or t 0 0) has.1.1 in
    let one : has.0 ≡ 1 = has.1.0 in
    let rest : x.now ≡ text = has.2 ∙ ap (λ n. drop n (b ∷ text)) one in
    rw (eq-eqb b sign same) (ap Some rest)
