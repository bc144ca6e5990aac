-- Why there are no sections.
use Rattle.std.specs.Prelude.{◌≡◌, ◌<◌, List, length}
use Rattle.clash_sections.specs.declared.meetings.Meeting.{Meeting}
use Rattle.clash_sections.specs.declared.meetings.Meeting.TheVariants.{Free, Clash}
use Rattle.clash_sections.specs.declared.refused.Refused.{Refused}
use Rattle.clash_sections.specs.declared.refused.Refused.TheVariants.{Many, FreeOfItself, Memory}
use Rattle.clash_sections.specs.Stands.{meeting, IsOrderly}
use Rattle.clash_sections.specs.Sections.{StandSection, IsExact}

-- Memory ran out; or a stand that clashes with another one is free of itself; or so many sections would do, which is more than 64.
abbrev pub IsRefused : List (List Meeting) → Refused → Type 0
IsRefused C Memory = Unit {0}
IsRefused C (FreeOfItself a b) = (meeting C a b ≡ Clash) × (meeting C a a ≡ Free)
IsRefused C (Many n) = IsOrderly C × (64 < n) × ((S : List StandSection) × (length S ≡ n) × IsExact C S)
