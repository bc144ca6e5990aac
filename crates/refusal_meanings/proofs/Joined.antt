-- Texts one after another.
use Rattle.std.proofs.Common.{◌≡◌, ◌∙◌, ℕ, List, ◌++◌, ap, append_assoc}

-- four texts after another one, the first of three parts and the last of two
pub parts_joined : (before a b c d e f g one two three : List ℕ) → one ≡ before ++ (a ++ (b ++ c)) → two ≡ one ++ d → three ≡ two ++ e
    → three ++ (f ++ g) ≡ before ++ (a ++ b ++ c ++ d ++ e ++ f ++ g)
parts_joined before a b c d e f g one two three first second third =
    ap (λ (t : List ℕ). t ++ (f ++ g)) (third ∙ ap (λ (t : List ℕ). t ++ e) (second ∙ ap (λ (t : List ℕ). t ++ d) first)) ∙ simp append_assoc
