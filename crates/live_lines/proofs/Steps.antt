-- Words that are added one after another.
use Rattle.std.proofs.Common.{◌≡◌, ◌∙◌, List, ◌++◌, ℕ, Result, OnOk, ap, append_assoc}
use Rattle.std.proofs.lemmas.Result.{on_ok_weaker}

-- once the first words were added, the second ones are
pub added_then : {T E : Type 0} (r : Result T E) (before first second middle after : List ℕ)
    → middle ≡ before ++ first → OnOk r (after ≡ middle ++ second) → OnOk r (after ≡ before ++ (first ++ second))
added_then r before first second middle after h k =
    on_ok_weaker r (λ e. e ∙ ap (λ m. m ++ second) h ∙ append_assoc before first second) k
