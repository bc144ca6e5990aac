-- Where ticks and points lie in a picture.
use Rattle.std.specs.Prelude.{ℕ, ◌+◌, ◌-◌, ◌*◌, ◌/◌, ◌==◌, length, min, nat_lt, position, slice_index_or, Option, Some, None, if◌then◌else◌, unwrap_or}
use Rattle.train_graph.specs.declared.scale.Axes.{Axes}

-- how far to the right a tick lies: in proportion, and no further than the last one
abbrev pub x_at : Axes → ℕ → ℕ
x_at axes tick = axes.left + min tick axes.span * axes.width / axes.span

-- the row of a point, counted from the top; a point without a row comes after all
abbrev pub row_of : Axes → ℕ → ℕ
row_of axes p = unwrap_or (position (λ row. row == p) axes.rows.items) (length axes.rows.items)

-- how far down a point lies: as deep as its row; a point without a row lies at the bottom
abbrev pub y_at : Axes → ℕ → ℕ
y_at axes p = slice_index_or axes.depths.items (row_of axes p) axes.bottom

-- how far down a train that leaves the layout goes: a bit away from its point, and from the middle
abbrev pub y_out : Axes → ℕ → ℕ
y_out axes p =
    if nat_lt (row_of axes p * 2) (length axes.rows.items) then y_at axes p - 10 else y_at axes p + 10

-- how far down a step leads
abbrev pub target_y : Axes → ℕ → Option ℕ → ℕ
target_y axes from (Some p) = y_at axes p
target_y axes from None = y_out axes from
