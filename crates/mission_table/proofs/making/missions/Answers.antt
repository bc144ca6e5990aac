use Rattle.std.proofs.Common.{◌≡◌, ◌⊎◌, ◌∙◌, Ok, Err, ap, sym, inl, inr, arith, length, subst}
use Rattle.rail_model.specs.Layout.{IsLayout}
use Rattle.rail_model.specs.Turns.{first_of}
use Rattle.rail_model.proofs.Firsts.{Answers-err}
use Rattle.mission_table.specs.declared.refused.MissionRefused.TheVariants.{Memory}
use Rattle.mission_table.specs.Seen.{ways_seen}
use Rattle.mission_table.specs.Ways.{missions_from}
use Rattle.mission_table.proofs.Fleet.{count_rows, counts_seen, each_of, refused_counts, refused_way, missions_made}
use Rattle.mission_table.proofs.Taken.{missions_formed}
use Rattle.mission_table.proofs.making.missions.Goals.{After-check_counts, After-each_mission}
use Rattle.mission_table.proofs.making.missions.Goals as goal

-- the counts are tested of what is seen
counts : (c : After-check_counts) → first_of (count_rows c.len.result c.len-2.result c.len-3.result)
    ≡ first_of (count_rows (length c.args.trains.now) (length (ways_seen c.args.lists.items)) (length c.args.exits.items))
counts c =
    counts_seen (length c.args.trains.now) c.args.lists.items c.args.exits.items c.len.result c.len-2.result c.len-3.result
    c.len.ensures.count (omega (arith, c.args.lists.ok.0)) (omega (arith, c.args.exits.ok.0))

-- the missions are made of what is given
given : (c : After-each_mission) → each_of c.in_ok-tracks.tracks c.deref.result.now c.deref-2.result.now ≡ each_of c.args.layout.now c.args.lists.items c.args.exits.items
given c = λ i. each_of (c.in_ok-tracks.ensures.same i) (c.deref.ensures.value i) (c.deref-2.ensures.value i)

pub returns-in_err-check_counts : goal.returns-in_err-check_counts
returns-in_err-check_counts c =
    let at = goal.at.returns-in_err-check_counts c in
    let e = c.in_err-check_counts.field-0.0 in
    let wanted = missions_from c.args.layout.now (length c.args.trains.now) (ways_seen c.args.lists.items) c.args.exits.items in
    Answers-err Memory (λ missions. missions) c.from_residual.result wanted e c.from_residual.ensures.1
    (inr (refused_counts c.args.layout.now (length c.args.trains.now) (ways_seen c.args.lists.items) c.args.exits.items e
    (c.in_err-check_counts.ensures ∙ counts at.After-check_counts)))

pub returns-in_err-missions : goal.returns-in_err-missions
returns-in_err-missions c =
    let at = goal.at.returns-in_err-missions c in
    let L = c.args.layout.now in
    let trains = length c.args.trains.now in
    let lists = c.args.lists.items in
    let exits = c.args.exits.items in
    let rows = c.in_ok-check_counts.ensures ∙ counts at.After-check_counts in
    let e = c.in_err-missions.field-0.0 in
    let answer = elim c.in_err-missions.ensures as (λ _. (e ≡ Memory) ⊎ (missions_from L trains (ways_seen lists) exits ≡ Err e)) [
      | inl m ↦ inl m
      | inr d ↦ inr (refused_way L trains lists exits rows e (sym (given at.After-each_mission) ∙ d))
    ] in
    Answers-err Memory (λ missions. missions) c.from_residual-in_err-missions.result (missions_from L trains (ways_seen lists) exits) e
    c.from_residual-in_err-missions.ensures.1 answer

pub new-requires-2 : goal.new-requires-2
new-requires-2 c =
    let at = goal.at.new-requires-2 c in
    let lists = c.args.lists.items in
    let made = missions_made c.args.layout.now (length c.args.trains.now) lists c.args.exits.items
    (c.in_ok-check_counts.ensures ∙ counts at.After-check_counts) c.in_ok-missions.missions.items
    (sym (given at.After-each_mission) ∙ c.in_ok-missions.ensures) in
    missions_formed c.args.layout.now (length c.args.trains.now) (ways_seen lists) c.args.exits.items c.in_ok-missions.missions.items
    (subst IsLayout c.in_ok-tracks.ensures.same c.in_ok-tracks.ensures.formed) c.len.ensures.formed.few made

pub returns : goal.returns
returns c =
    let at = goal.at.returns c in
    missions_made c.args.layout.now (length c.args.trains.now) c.args.lists.items c.args.exits.items
    (c.in_ok-check_counts.ensures ∙ counts at.After-check_counts) c.in_ok-missions.missions.items
    (sym (given at.After-each_mission) ∙ c.in_ok-missions.ensures) ∙ ap Ok (sym c.new-2.ensures)
