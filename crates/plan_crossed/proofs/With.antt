-- Plans with crossings, and without.
use Rattle.std.proofs.Common.{◌≡◌, refl, subst, codes, true, ℕ, List, [], ◌∷◌, ◌++◌, length, map, All, String, Global, arith}
use Rattle.std.specs.List.{AllZip, list_all}
use Rattle.std.proofs.lemmas.List.Elements.{AllZip-push}
use Rattle.toml.specs.Data.{Members}
use Rattle.plan_crossings.specs.Answer.{AreSound}
use Rattle.plan_crossings.specs.Crossings.{Crossing}
use Rattle.plan_crossings.specs.Numbers.{is_of}
use Rattle.plan_crossings.specs.Sections.{IsExact, IsSized, seen_section}
use Rattle.plan_crossings.specs.States.{Route}
use Rattle.plan_document.specs.declared.plan.Plan.{Plan}
use Rattle.plan_document.specs.declared.plan.SectionPlan.{SectionPlan}
use Rattle.plan_document.specs.declared.plan.TablePlan.{TablePlan}
use Rattle.plan_crossed.specs.Crossed.{AddsCrossings, AddsSections, AreCrossings, AreSectionsOf, HasCrossingsOf, HasMore, IsWith}
use Rattle.plan_crossed.specs.Numbered.{routes_by_numbers}
use Rattle.plan_crossed.specs.Said.{crossings_said, entries_at, has_tracks}

pub no_crossings : (crossings : List Crossing) (plan : Plan) → length crossings ≡ 0 → IsWith crossings plan plan
no_crossings [] plan none = refl
no_crossings (c ∷ cs) plan none = absurd (omega (arith, none))

pub some_crossings : (crossings : List Crossing) (old new : Plan) → (length crossings ≡ 0 → ⊥) → AddsCrossings crossings old new → IsWith crossings old new
some_crossings [] old new some adds = absurd (some refl)
some_crossings (c ∷ cs) old new some adds = adds

-- sections of crossings before those of a table
pub adds_sections : (crossings : List Crossing) (points : List (String Global × ℕ)) (old new : TablePlan) (sections : List SectionPlan)
    (routes : List Route) → routes ≡ routes_by_numbers points old → IsExact crossings routes (map seen_section sections)
    → All (IsSized routes) (map seen_section sections) → AreSound crossings routes → HasMore sections old new
    → AddsSections crossings points old new
adds_sections crossings points old new sections routes numbered exact_is sized_is sound_is more =
    let are : AreSectionsOf crossings routes sections = record { exact = exact_is; sized = sized_is; sound = sound_is } in
    (sections, subst (λ (rs : List Route). AreSectionsOf crossings rs sections) numbered are, more)

-- one table more
pub table_more : (crossings : List Crossing) (points : List (String Global × ℕ)) (olds news : List TablePlan) (old new : TablePlan)
    → AllZip (AddsSections crossings points) olds news → AddsSections crossings points old new
    → AllZip (AddsSections crossings points) (olds ++ old ∷ []) (news ++ new ∷ [])
table_more crossings points olds news old new = AllZip-push (AddsSections crossings points) olds news old new

-- a plan with the crossings of its text, if there are none and if there are some
pub has_none : (text : Members) (plan : Plan) (crossings : List Crossing) → crossings ≡ crossings_said plan.points.items text
    → list_all (is_of (length plan.points.items)) crossings ≡ true → list_all has_tracks (entries_at (codes "scissors") text) ≡ true
    → length crossings ≡ 0 → HasCrossingsOf text plan plan
has_none text plan crossings said known_is tracks_are none =
    let are : AreCrossings plan.points.items text crossings = record { said_is = said; known = known_is; tracks = tracks_are } in
    (crossings, are, no_crossings crossings plan none)

pub has_some : (text : Members) (old new : Plan) (crossings : List Crossing) → crossings ≡ crossings_said old.points.items text
    → list_all (is_of (length old.points.items)) crossings ≡ true → list_all has_tracks (entries_at (codes "scissors") text) ≡ true
    → (length crossings ≡ 0 → ⊥) → AddsCrossings crossings old new → HasCrossingsOf text old new
has_some text old new crossings said known_is tracks_are some adds =
    let are : AreCrossings old.points.items text crossings = record { said_is = said; known = known_is; tracks = tracks_are } in
    (crossings, are, some_crossings crossings old new some adds)
