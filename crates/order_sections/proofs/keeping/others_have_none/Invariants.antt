use Rattle.std.proofs.Common.{◌≡◌, ◌≢◌, ℕ, ◌<◌, ◌≤◌, pos, length}
use Rattle.rail_model.specs.Table.{last, share}
use Rattle.order_sections.specs.Orders.{member}
use Rattle.order_sections.proofs.keeping.others_have_none.Given as goal

abbrev pub invariant-loop-train : goal.invariant-loop-train
invariant-loop-train l =
    (k : ℕ) → k < l.train → (a : ℕ) → ((m : ℕ) → m < length l.chain → member l.chain m ≢ k) → a ≤ last l.table k
    → share l.table k l.section a ≡ pos 0
