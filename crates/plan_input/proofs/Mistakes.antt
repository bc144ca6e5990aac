-- The lines of mistakes in a file begin with its name.
use Rattle.std.proofs.Common.{◌<◌, List, ℕ, [], ◌∷◌, ◌++◌, flat_map, length, codes, decimal, string_bytes, arith, append_assoc}
use Rattle.plan_entries.specs.declared.faults.Fault.{Fault}
use Rattle.plan_input.specs.Origin.{SayMistakes, mistake_words}

pub say_mistakes : (name : List ℕ) (faults : List Fault) → 0 < length faults → SayMistakes name (flat_map (mistake_words name) faults)
say_mistakes name [] some = absurd (omega (arith, some))
say_mistakes name (f ∷ fs) some =
    let words = codes "line " ++ decimal f.line ++ codes ": " ++ string_bytes f.words ++ codes "\n" in
    let later = flat_map (mistake_words name) fs in
    (words ++ later, append_assoc (name ++ codes ": ") words later)
