-- Each test of a box is true exactly where its definition holds.
use Rattle.std.proofs.Common.{◌≡◌, ℕ, ◌<◌, true, List, length, Some, subst}
use Rattle.std.specs.Prelude.{◌↔◌, slice_get}
use Rattle.rail_model.specs.Table.{Table, Connection, trains}
use Rattle.rail_model.specs.Certificate.{Range, range, IsIn, MayBlock, MayBeFull, MayBeHeld}
use Rattle.rail_model.specs.Checks.{may_block, may_be_full, may_be_held}
use Rattle.rail_model.proofs.Agree.{Decides-may_block, Decides-may_be_full, Decides-may_be_held}

pub block : (T : Table) (B : List Range) (i j : ℕ) → j < trains T → (may_block T B i j ≡ true) ↔ MayBlock T B i j
block T B i j j_in = (λ e. let h = (Decides-may_block T B i j).0 e in (j_in, h.0, h.1), λ h. (Decides-may_block T B i j).1 (h.1, h.2))

pub full : (T : Table) (B : List Range) (i s : ℕ) → s < length T.sections → (may_be_full T B i s ≡ true) ↔ MayBeFull T B i s
full T B i s s_in = (
  λ e. let h = (Decides-may_be_full T B i s).0 e in (s_in, (h.0, h.1, h.2.0, h.2.1)),
  λ h. (Decides-may_be_full T B i s).1 (h.1.0, h.1.1, (h.1.2, h.1.3)),
)

pub held : (T : Table) (B : List Range) (i c : ℕ) (k : Connection)
    → slice_get T.connections c ≡ Some k → (may_be_held B i k ≡ true) ↔ MayBeHeld T B i c
held T B i c k there = (
  λ e. let h = (Decides-may_be_held B i k).0 e in (k, there, h.0, h.1, h.2),
  λ h. let same : h.0 ≡ k = (let e = h.1 in cc) in (Decides-may_be_held B i k).1 (subst Holds same (h.2, h.3, h.4)),
)
  where
    Holds : Connection → Type 0
    Holds k = (k.train ≡ i) × IsIn k.place (range B i) × ((range B k.other).lo < k.reached)
