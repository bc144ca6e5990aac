-- A plan with the sections of a text's crossings before its own.
use Rattle.std.specs.Prelude.{codes, ◌≡◌, ℕ, List, [], ◌∷◌, ◌++◌, true, All, map, length, String}
use Rattle.std.specs.List.{AllZip, list_all}
use Rattle.std.specs.declared.alloc.Global.{Global}
use Rattle.toml.specs.Data.{Members}
use Rattle.plan_crossings.specs.Answer.{AreSound}
use Rattle.plan_crossings.specs.Crossings.{Crossing}
use Rattle.plan_crossings.specs.Numbers.{is_of}
use Rattle.plan_crossings.specs.Sections.{IsExact, IsSized, seen_section}
use Rattle.plan_crossings.specs.States.{Route}
use Rattle.plan_document.specs.declared.plan.Plan.{Plan}
use Rattle.plan_document.specs.declared.plan.SectionPlan.{SectionPlan}
use Rattle.plan_document.specs.declared.plan.TablePlan.{TablePlan}
use Rattle.plan_crossed.specs.Numbered.{routes_by_numbers}
use Rattle.plan_crossed.specs.Said.{crossings_said, entries_at, has_tracks}

-- These are the crossings of a text: each name in them is one of a point or of a way, and scissors have two tracks of three points.
pub record AreCrossings (points : List (String Global × ℕ)) (text : Members) (crossings : List Crossing) : Type 0 where
  pub said_is : crossings ≡ crossings_said points text
  pub known : list_all (is_of (length points)) crossings ≡ true
  pub tracks : list_all has_tracks (entries_at (codes "scissors") text) ≡ true

-- Sections that let in, of the states of these routes in which no two trains are at one point, exactly those in which the ways agree that
-- trains are on: and nothing is wrong with a crossing.
pub record AreSectionsOf (crossings : List Crossing) (routes : List Route) (sections : List SectionPlan) : Type 0 where
  pub exact : IsExact crossings routes (map seen_section sections)
  pub sized : All (IsSized routes) (map seen_section sections)
  pub sound : AreSound crossings routes

-- A table is another one with these sections before its own. So sections that are added to it later come behind all.
pub record HasMore (sections : List SectionPlan) (old new : TablePlan) : Type 0 where
  pub sections_are : new.sections.items ≡ sections ++ old.sections.items
  pub routes_kept : new.routes ≡ old.routes
  pub exits_kept : new.exits ≡ old.exits
  pub times_kept : new.times ≡ old.times
  pub waits_kept : new.waits ≡ old.waits
  pub due_kept : new.after ≡ old.after

-- A table is another one with the sections of crossings before its own.
abbrev pub AddsSections : List Crossing → List (String Global × ℕ) → TablePlan → TablePlan → Type 0
AddsSections crossings points old new =
    (sections : List SectionPlan) × AreSectionsOf crossings (routes_by_numbers points old) sections × HasMore sections old new

-- A plan is another one, in each of whose tables the sections of crossings are before its own.
pub record AddsCrossings (crossings : List Crossing) (old new : Plan) : Type 0 where
  pub tables_are : AllZip (AddsSections crossings old.points.items) old.tables.items new.tables.items
  pub lines_kept : new.lines ≡ old.lines
  pub switches_kept : new.switches ≡ old.switches
  pub points_kept : new.points ≡ old.points
  pub links_kept : new.links ≡ old.links
  pub zones_kept : new.zones ≡ old.zones
  pub trains_kept : new.trains ≡ old.trains
  pub start_kept : new.start ≡ old.start

-- A plan is another one with crossings: the other one itself, if there are none.
abbrev pub IsWith : List Crossing → Plan → Plan → Type 0
IsWith [] old new = new ≡ old
IsWith (c ∷ cs) old new = AddsCrossings (c ∷ cs) old new

-- A plan is another one with the crossings of a text.
abbrev pub HasCrossingsOf : Members → Plan → Plan → Type 0
HasCrossingsOf text old new = (crossings : List Crossing) × AreCrossings old.points.items text crossings × IsWith crossings old new
