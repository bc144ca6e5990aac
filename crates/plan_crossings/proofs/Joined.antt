-- Sections of one crossing more.
use Rattle.std.proofs.Common.{◌≡◌, sym, subst, ℕ, ◌+◌, ◌<◌, List, [], ◌∷◌, ◌++◌, length, take, All, arith}
use Rattle.std.proofs.lemmas.List.{get_or_append_left, get_or-append-add, length-append, take_more}
use Rattle.std.proofs.lemmas.List.Elements.{All-append, All-push}
use Rattle.plan_crossings.specs.Answer.{crossing_of}
use Rattle.plan_crossings.specs.Crossings.{Crossing}
use Rattle.plan_crossings.specs.Sections.{WaySection, IsWithin, IsExact, IsExactFor}
use Rattle.plan_crossings.specs.States.{Route, WaysAgree}

all-left : {X : Type 0} (P : X → Type 0) (xs ys : List X) → All P (xs ++ ys) → All P xs
all-left P xs ys all k d lt = subst P (get_or_append_left xs ys d k lt) (all k d (omega (arith, lt, length-append xs ys)))

all-right : {X : Type 0} (P : X → Type 0) (xs ys : List X) → All P (xs ++ ys) → All P ys
all-right P xs ys all k d lt = subst P (get_or-append-add xs ys k d) (all (length xs + k) d (omega (arith, lt, length-append xs ys)))

pub exact-none : (routes : List Route) → IsExact [] routes []
exact-none routes p apart = (λ all k d lt. absurd (omega arith), λ all k d lt. absurd (omega arith))

pub exact-more : (crossings : List Crossing) (c : Crossing) (routes : List Route) (S T : List WaySection) → IsExact crossings routes S
    → IsExactFor c routes T → IsExact (crossings ++ c ∷ []) routes (S ++ T)
exact-more crossings c routes S T those this p apart = (
  λ within.
      All-push (WaysAgree routes p) crossings c ((those p apart).0 (all-left (IsWithin routes p) S T within))
      ((this p apart).0 (all-right (IsWithin routes p) S T within)),
  λ agree.
      All-append (IsWithin routes p) S T ((those p apart).1 (all-left (WaysAgree routes p) crossings (c ∷ []) agree))
      ((this p apart).1 (all-right (WaysAgree routes p) crossings (c ∷ []) agree 0 c (omega arith))),
)

-- the crossings up to the next one
pub exact-next : (crossings : List Crossing) (routes : List Route) (k : ℕ) (S T U : List WaySection) → k < length crossings
    → IsExact (take k crossings) routes S → IsExactFor (crossing_of crossings k) routes T
    → U ≡ S ++ T → IsExact (take (k + 1) crossings) routes U
exact-next crossings routes k S T U lt those this joined =
    let next : take (k + 1) crossings ≡ take k crossings ++ crossing_of crossings k ∷ [] =
    take_more crossings k (record { ways = []; parallel = [] }) lt in
    subst (λ (cs : List Crossing). IsExact cs routes U) (sym next)
    (subst (λ (V : List WaySection). IsExact (take k crossings ++ crossing_of crossings k ∷ []) routes V) (sym joined)
    (exact-more (take k crossings) (crossing_of crossings k) routes S T those this))
