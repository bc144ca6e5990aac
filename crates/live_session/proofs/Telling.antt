-- The text of a request is put together.
use Rattle.std.proofs.Common.{◌≡◌, ℕ, List, ◌++◌, ap, ◌∙◌, append_assoc}

pub four : (start a b c d own answer fired news : List ℕ) → a ≡ start ++ own → b ≡ a ++ answer → c ≡ b ++ fired
    → d ≡ c ++ news
    → d ≡ start ++ (own ++ (answer ++ (fired ++ news)))
four start a b c d own answer fired news e f g h =
    h ∙ ap (λ (t : List ℕ). t ++ news) (g ∙ ap (λ (t : List ℕ). t ++ fired) (f ∙ ap (λ (t : List ℕ). t ++ answer) e))
    ∙ append_assoc ((start ++ own) ++ answer) fired news ∙ append_assoc (start ++ own) answer (fired ++ news)
    ∙ append_assoc start own (answer ++ (fired ++ news))
