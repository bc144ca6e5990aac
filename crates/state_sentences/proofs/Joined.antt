-- Texts one after another.
use Rattle.std.proofs.Common.{◌≡◌, ◌∙◌, ℕ, List, ◌++◌, ap, append_assoc}

-- four texts after another one, two of which are said in other words
pub four_joined : (before a b c d one two three b' c' : List ℕ) → one ≡ before ++ a → two ≡ one ++ b → three ≡ two ++ c → b ≡ b' → c ≡ c'
    → three ++ d ≡ before ++ (a ++ (b' ++ (c' ++ d)))
four_joined before a b c d one two three b' c' h k l same_b same_c =
    ap (λ (t : List ℕ). t ++ d) (l ∙ ap (λ (t : List ℕ). t ++ c) (k ∙ ap (λ (t : List ℕ). t ++ b) h))
    ∙ append_assoc ((before ++ a) ++ b) c d ∙ append_assoc (before ++ a) b (c ++ d) ∙ append_assoc before a (b ++ (c ++ d))
    ∙ ap (λ (t : List ℕ). before ++ (a ++ (t ++ (c ++ d)))) same_b ∙ ap (λ (t : List ℕ). before ++ (a ++ (b' ++ (t ++ d)))) same_c
