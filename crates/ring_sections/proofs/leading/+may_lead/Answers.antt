use Rattle.std.proofs.Common.{◌≡◌, false, refl, length, arith, sym, subst, rules}
use Rattle.std.specs.Prelude.{All}
use borrow.Author.Count.{below_more}
use Rattle.std.proofs.lemmas.List.Elements.{All-push}
use Rattle.ring_sections.specs.declared.leading.Reach.{Reach}
use Rattle.ring_sections.specs.Ring.{pair_at}
use Rattle.ring_sections.specs.Leading.{IsLost, IsLostBy}
use Rattle.ring_sections.proofs.LeadingBack.{lost_behind, lost_tried}
use Rattle.ring_sections.proofs.StepLists.{looked_up, point_within, all_valid}
use Rattle.ring_sections.proofs.leading.+may_lead.Goals as goal
use Rattle.ring_sections.proofs.leading.+may_lead.Goals.{in-Some+in_ok-may_lead+else-branch, in_default}

pub at-next-items-requires : goal.at-next-items-requires
at-next-items-requires t c = point_within c.args.chart.now.missions.now (length c.args.chart.now.levels.now) c.args.from.point c.args.chart.now.standing.now c.requires.point c.requires.chart.places

pub onward-requires-clause-next : goal.onward-requires-clause-next
onward-requires-clause-next t c =
    let is = looked_up c.args.chart.now.missions.now _ _ _ _ c.requires.point c.requires.chart.places c.at-next-items.ensures in
    all_valid c.args.chart.now.missions.now _ _ is c.loop-index.index (0, 0) c.loop-index-test.true

pub onward-requires-clause-left : goal.onward-requires-clause-left
onward-requires-clause-left t c = c.is_lost.ensures.left c.if-is_lost.false

pub loop-index-preserved : goal.loop-index-preserved
loop-index-preserved t c =
    let M = c.args.chart.now.missions.now in
    let here = c.at-next-items.result.now in
    let tried = below_more (λ j. IsLostBy M c.args.way.now c.args.shut c.args.from (pair_at here j)) c.loop-index.index c.loop-index.invariant.tried in
    elim c.match-onward.branch [
      | in-Some+in_ok-may_lead+else-branch w ↦ rw w.lost-is (record {
        lost = w.in_ok-may_lead.ensures.lost;
        tried = tried (lost_behind M c.args.way.now c.args.shut c.args.from w.in-Some.behind (pair_at here c.loop-index.index) w.in-Some.ensures.behind
            (w.in_ok-may_lead.ensures.answer w.if-branch.false));
      })
      | in_default w ↦ rw w.lost-is (record { lost = c.loop-index.invariant.lost; tried = tried (c.onward.ensures.none c.args.shut w.in_default.is) })
    ]

-- all pairs at the point were tried
pub returns-clause-answer : goal.returns-clause-answer
returns-clause-answer t c = λ _.
    let is = looked_up c.args.chart.now.missions.now _ _ _ _ c.requires.point c.requires.chart.places c.at-next-items.ensures in
    lost_tried c.args.chart.now.missions.now c.args.way.now c.args.shut c.args.from (search rules) c.at-next-items.result.now c.loop-index.index is (omega arith) c.loop-index.invariant.tried

pub returns-clause-lost : goal.returns-clause-lost
returns-clause-lost t c =
    let P : Reach → Type 0 = IsLost c.args.chart.now.missions.now c.args.way.now c.args.shut in
    subst (All P) (sym c.in_ok-push.ensures.items) (All-push P c.loop-index.lost.items c.args.from c.loop-index.invariant.lost (returns-clause-answer t c (let e : false ≡ false = refl in e)))
