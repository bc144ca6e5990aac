-- Texts one after the other.
use Rattle.std.proofs.Common.{◌≡◌, ℕ, suc, ◌+◌, List, [], ◌++◌, refl, sym, ap, subst, ◌∙◌, append_assoc, arith}
use Rattle.std.specs.Prelude.{OnOk, Result, Ok, Err}
use Rattle.std.proofs.lemmas.List.{append-nil}
use Rattle.live_answers.specs.Rows.{AreRows, Says}

pub no_rows : (R : ℕ → List ℕ → Type 0) (text : List ℕ) → Says (AreRows R 0) text text
no_rows R text = ([], refl, sym (append-nil text))

-- one more row
pub one_more : (R : ℕ → List ℕ → Type 0) (n : ℕ) (start before after : List ℕ) → Says (AreRows R n) start before
    → Says (R n) before after
    → Says (AreRows R (n + 1)) start after
one_more R n start before after rows last =
    let next : suc n ≡ n + 1 = omega arith in
    let all : AreRows R (suc n) (rows.0 ++ last.0) = (rows.0, last.0, rows.1, last.1, refl) in (
      rows.0 ++ last.0,
      subst (λ (k : ℕ). AreRows R k (rows.0 ++ last.0)) next all,
      last.2 ∙ ap (λ (t : List ℕ). t ++ last.0) rows.2 ∙ append_assoc start rows.0 last.0,
    )

-- an answer behind rows
pub behind : (start before line after rows : List ℕ) → before ≡ start ++ rows → after ≡ before ++ line
    → after ≡ start ++ (rows ++ line)
behind start before line after rows first last =
    last ∙ ap (λ (t : List ℕ). t ++ line) first ∙ append_assoc start rows line

-- what follows where a call went well
pub on_ok : {A E : Type 0} (r : Result A E) (P Q : Type 0) → (P → Q) → OnOk r P → OnOk r Q
on_ok (Ok a) P Q so is = so is
on_ok (Err e) P Q so is = is
