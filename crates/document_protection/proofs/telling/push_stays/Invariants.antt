use Rattle.std.proofs.Common.{◌≡◌, ◌++◌, codes, string_bytes, take}
use Rattle.std.specs.Prelude.{flat_map}
use Rattle.document_protection.specs.Words.{stay_words}
use Rattle.document_protection.proofs.telling.push_stays.Given as goal

abbrev pub invariant-loop-stay : goal.invariant-loop-stay
invariant-loop-stay l =
    string_bytes l.out
    ≡ string_bytes l.initial.out ++ flat_map (λ o. codes ", " ++ stay_words l.told.names.now l.told.table.now o)
    (take l.stay-index l.others)
