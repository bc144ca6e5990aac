use Rattle.std.proofs.Common.{◌≡◌, ℕ, ◌+◌, ◌*◌, ◌≤◌, length, sym, ap, ◌∙◌, mul-le-mul_right, subst, arith}
use Rattle.rail_model.specs.Table.{last}
use Rattle.state_boxes.proofs.extremes.single_shares.Goals as goal

pub add_place-requires-clause-room : goal.add_place-requires-clause-room
add_place-requires-clause-room c =
    let rows = mul-le-mul_right {m = c.loop-place.place + 1} {n = last c.args.table.now c.args.train + 1} (length c.args.table.now.sections) (omega arith) in
    omega (arith, rows, c.loop-place.invariant.room)

pub loop-place-preserved : goal.loop-place-preserved
loop-place-preserved c = record {
  single = c.add_place.ensures.single;
  many = c.add_place.ensures.many;
  room = subst (λ (n : ℕ). (last c.args.table.now c.args.train + 1) * length c.args.table.now.sections ≤ n) (sym c.add_place.ensures.room) c.loop-place.invariant.room;
}

pub returns-clause-many : goal.returns-clause-many
returns-clause-many c =
    let end : c.loop-place.place ≡ last c.args.table.now c.args.train + 1 = omega arith in
    c.loop-place.invariant.many ∙ ap (λ (n : ℕ). n * length c.args.table.now.sections) end
