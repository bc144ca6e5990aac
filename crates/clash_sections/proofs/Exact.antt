-- Sound sections that forbid each clash are exact.
use Rattle.std.proofs.Common.{ℕ, List, length, All, Option, refl, ap, subst, arith}
use Rattle.clash_sections.specs.declared.meetings.Meeting.{Meeting}
use Rattle.clash_sections.specs.Stands.{Meet}
use Rattle.clash_sections.specs.Sections.{StandSection, share_of, IsWithin, IsExact, Forbids, IsSized}
use Rattle.clash_sections.specs.Tracks.{IsFit, AreEnough}
use Rattle.clash_sections.proofs.Two.{two-le-sum}

-- two trains on stands of which the section forbids just that aren't within it
forbidden-over : (s : StandSection) (p : List (Option ℕ)) (a b : ℕ) → Forbids a b s → Meet p a b → IsWithin p s → ⊥
forbidden-over s p a b forbids meet within =
    let two = two-le-sum (share_of s) refl p meet.one meet.other meet.differ in
    let one = ap (share_of s) meet.one_stands in
    let other = ap (share_of s) meet.other_stands in
    omega arith

pub enough-exact : (C : List (List Meeting)) (S : List StandSection) → All (IsFit C) S → AreEnough C S → IsExact C S
enough-exact C S fit enough p possible = (
  λ within a b meet clash.
      let some = enough a b clash in
      forbidden-over some.1 p a b some.4 meet (subst (IsWithin p) some.3 (within some.0 some.1 some.2)),
  λ apart k d l. (fit k d l).sound p possible apart,
)

pub all-sized : (C : List (List Meeting)) (S : List StandSection) → All (IsFit C) S → All (IsSized (length C)) S
all-sized C S fit k d l = (fit k d l).sized
